-- Bytes put one after another.
use Rattle.std.proofs.Common.{◌≡◌, ℕ, ◌+◌, ◌<◌, ◌≤◌, List, [], ◌∷◌, ◌++◌, map, length, get_or, take, drop, sym, refl, ap, ◌∙◌, subst, append_assoc, arith, length-append}
use Rattle.std.specs.List.{flat_map}
use Rattle.std.proofs.lemmas.List.{length-take-le, take_at, take_more, flat_map_more}
use Rattle.std.proofs.lemmas.Slice.{drop-append-drop}
use Rattle.reply.specs.declared.pieces.Pen.{Pen}
use Rattle.reply.specs.Steps.{Puts, Writes}

module _ (was mid after a b : List ℕ) (at n end : ℕ) (long : length mid ≡ length was) (p : Puts was at a mid n) (q : Puts mid n b after end) where
  joins : end ≤ length was → after ≡ take at was ++ ((a ++ b) ++ drop end was)
  joins fits =
      let front = length-take-le at was (omega (arith, p.behind, q.behind)) in
      let both = length-append (take at was) a in
      let here : length (take at was ++ a) ≡ n = omega (arith, p.behind) in
      let is : mid ≡ (take at was ++ a) ++ drop n was = p.put (omega (arith, q.behind)) ∙ sym (append_assoc (take at was) a (drop n was)) in
      let before : take n mid ≡ take at was ++ a = ap (take n) is ∙ take_at (take at was ++ a) (drop n was) n here in
      let behind : drop end mid ≡ drop end was = ap (drop end) is ∙ drop-append-drop n was (take at was ++ a) end (omega (arith, q.behind)) here in
      q.put (omega arith) ∙ ap (λ l. l ++ (b ++ drop end mid)) before ∙ ap (λ l. (take at was ++ a) ++ (b ++ l)) behind ∙ append_assoc (take at was) a (b ++ drop end was) ∙ ap (λ l. take at was ++ l) (sym (append_assoc a b (drop end was)))

  -- bytes put after others
  pub puts_more : Puts was at (a ++ b) after end
  puts_more = let both = length-append a b in record { behind = omega (arith, p.behind, q.behind); put = joins }

-- the same of a pen
pub writes_more : (was mid after : Pen) (a b : List ℕ) → Writes was a mid → Writes mid b after → Writes was (a ++ b) after
writes_more was mid after a b p q = record {
  same = q.same ∙ p.same;
  long = q.long ∙ p.long;
  put = puts_more was.out.now mid.out.now after.out.now a b was.at mid.at after.at p.long p.put q.put;
}

module _ {X : Type 0} (f : X → List ℕ) where
  pub joined_map : {Y : Type 0} (g : Y → X) (ys : List Y) → flat_map f (map g ys) ≡ flat_map (λ y. f (g y)) ys
  joined_map g [] = refl
  joined_map g (y ∷ ys) = ap (λ l. f (g y) ++ l) (joined_map g ys)

  -- one element more
  module _ (xs : List X) (i : ℕ) (d : X) (lt : i < length xs) where
    joined_next : flat_map f (take i xs) ++ f (get_or xs i d) ≡ flat_map f (take (i + 1) xs)
    joined_next = flat_map_more f [] (take i xs) (get_or xs i d) ∙ ap (flat_map f) (sym (take_more xs i d lt))

    pub writes_next : (was mid after : Pen) → Writes was (flat_map f (take i xs)) mid → Writes mid (f (get_or xs i d)) after → Writes was (flat_map f (take (i + 1) xs)) after
    writes_next was mid after p q = subst (λ l. Writes was l after) joined_next (writes_more was mid after (flat_map f (take i xs)) (f (get_or xs i d)) p q)
