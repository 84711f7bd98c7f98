-- Seed words drawn one after another.
use Rattle.std.proofs.Common.{◌≡◌, ℕ, suc, ◌+◌, ◌-◌, ◌<◌, ◌≤◌, List, [], ◌∷◌, ◌++◌, length, take, set, sym, refl, ap, ◌∙◌, subst, append_assoc, append-nil, arith, length-set}
use Rattle.std.specs.List.{AllByRecursion}
use Rattle.std.proofs.ByRecursion.{All-push}
use Rattle.std.proofs.lemmas.List.{take_all, take_more_set}
use Rattle.xorshift.specs.Xorshift.{next}
use Rattle.desk.specs.Seeds.{top_bits, words_from}

-- the first i words are drawn, x is the number that they end with, and the others come after it
pub record Drawn (seed i x : ℕ) (words : List ℕ) : Type 0 where
  pub long : length words ≡ 60
  pub whole : take i words ++ words_from (60 - i) x ≡ words_from 60 seed
  pub below : AllByRecursion (λ word. word < 4) (take i words)

pub drawn_none : (seed : ℕ) (words : List ℕ) → length words ≡ 60 → Drawn seed 0 seed words
drawn_none seed words long = record { long = long; whole = refl; below = tt }

module _ (seed i x : ℕ) (words : List ℕ) (d : Drawn seed i x words) where
  -- one word more
  pub drawn_more : (y w : ℕ) → i < 60 → y ≡ next x → w ≡ top_bits y → w < 4 → Drawn seed (i + 1) y (set words i w)
  unfolding words_from
  drawn_more y w lt stepped drawn small =
      let within : i < length words = omega (arith, d.long) in
      let front : take (i + 1) (set words i w) ≡ take i words ++ (w ∷ []) = take_more_set words i w within in
      let left : 60 - i ≡ suc (60 - (i + 1)) = omega arith in
      let here : w ∷ words_from (60 - (i + 1)) y ≡ words_from (60 - i) x = ap (λ v. v ∷ words_from (60 - (i + 1)) y) drawn ∙ ap (λ z. top_bits z ∷ words_from (60 - (i + 1)) z) stepped ∙ ap (λ n. words_from n x) (sym left) in
      record {
        long = length-set words i w ∙ d.long;
        whole = ap (λ l. l ++ words_from (60 - (i + 1)) y) front ∙ append_assoc (take i words) (w ∷ []) (words_from (60 - (i + 1)) y) ∙ ap (λ l. take i words ++ l) here ∙ d.whole;
        below = subst (AllByRecursion (λ word. word < 4)) (sym front) (All-push (λ word. word < 4) (take i words) w d.below small);
      }

  -- all are drawn
  pub drawn_all : 60 ≤ i → (words ≡ words_from 60 seed) × AllByRecursion (λ word. word < 4) words
  unfolding words_from
  drawn_all far =
      let all : take i words ≡ words = take_all i words (omega (arith, d.long)) in
      let none : 60 - i ≡ 0 = omega arith in
      (sym all ∙ sym (append-nil (take i words)) ∙ ap (λ n. take i words ++ words_from n x) (sym none) ∙ d.whole, subst (AllByRecursion (λ word. word < 4)) all d.below)
