-- What a ring that stands for a list counts, and that it goes on standing.
use Rattle.std.specs.Prelude.{◌≡◌, ℕ, ◌+◌, ◌-◌, ◌*◌, ◌%◌, ◌<◌, ◌≤◌, min, true, ◌||◌, ◌⊎◌, List, [], ◌∷◌, ◌++◌, length, take, drop, Decides, ◌==◌, nat_lt, slice_index, refl}
use Rattle.std.proofs.Common.{sym, ap, ◌∙◌, inl, inr, ⊎_elim, arith, mul-zero}
use Rattle.std.proofs.lemmas.Bool.{and_parts, and_from, eqb-true, eq-eqb, cases_lt, cases_eq}
use Rattle.std.proofs.lemmas.Bool.Decides.{Decides-or, Decides-eqb, Decides-ltb}
use Rattle.std.proofs.lemmas.List.{length-drop, length_push, length-set, get_or_append_left, get_or-set_same, get_or-set_other, get_or_push}
use Rattle.window.specs.Stamps.{live_count, ascending, newest_stamp}
use Rattle.window.specs.Meaning.{Keeps, Fresh}
use Rattle.window.specs.Causes.{Admitted}
use Rattle.window.specs.Faults.{Arrived, take_causes}
use Rattle.window.proofs.Arrivals.{live_split, live_le, live_append, old_dead, live_later, ascends_push, last_push}
use Rattle.window.proofs.Bounded.{all_decides}
use Rattle.window.proofs.Estimates.{admitted_stamp}
use Rattle.window.proofs.Rotation.{Size, Placed, newest_live}
use Rattle.ring.specs.Kept.{empty_ring, live_kept, placed, stands_for, with_newest, ring_model}
use Rattle.ring.specs.declared.Ring.{Ring}
use Rattle.ring.specs.Room.{live_few}

size_256 : Size 256
size_256 = record { below = λ n. omega arith; small = λ n h. omega arith; same = λ n i h k. omega arith; wrap = λ n i h k l. omega arith; apart = λ n r h k. omega arith }

placed_decides : (stamps xs : List ℕ) → Decides (placed stamps xs) ((r : ℕ) → r < length xs → (r + 256 < length xs) ⊎ (slice_index stamps (r % 256) ≡ slice_index xs r))
unfolding placed
placed_decides stamps xs =
    all_decides (λ r. nat_lt (r + 256) (length xs) || slice_index stamps (r % 256) == slice_index xs r) (λ r. (r + 256 < length xs) ⊎ (slice_index stamps (r % 256) ≡ slice_index xs r))
    (λ r. Decides-or _ _ (Decides-ltb (r + 256) (length xs)) (Decides-eqb _ _)) (length xs)

placed_from : (stamps xs : List ℕ) → placed stamps xs ≡ true → Placed 256 stamps xs (length xs)
placed_from stamps xs e r h k = ⊎_elim (λ old. absurd (omega arith)) (λ q. q) ((placed_decides stamps xs).0 e r h)

placed_to : (stamps xs : List ℕ) → Placed 256 stamps xs (length xs) → placed stamps xs ≡ true
placed_to stamps xs p =
    (placed_decides stamps xs).1 (λ r h. ⊎_elim (λ (old : r + 256 < length xs). inl old) (λ (new : length xs ≤ r + 256). inr (p r h new)) (cases_lt (r + 256) (length xs)))

-- the parts of `stands_for`; that the older stamps are dead says, in an ascending list, that at most 256 are live
pub record Standing (c : Ring) (xs : List ℕ) : Type 0 where
  pub ascends : ascending xs ≡ true
  pub many : length xs ≡ c.taken
  pub ends : newest_stamp xs ≡ c.last
  pub room : length c.stamps ≡ 256
  pub each : Placed 256 c.stamps xs (length xs)
  pub few : live_count c.last c.window xs ≤ 256

pub standing : (c : Ring) (xs : List ℕ) → stands_for c xs ≡ true → Standing c xs
unfolding stands_for
standing c xs e =
    let a = and_parts _ _ e in
    let b = and_parts _ _ a.1 in
    let d = and_parts _ _ b.1 in
    let f = and_parts _ _ d.1 in
    let g = and_parts _ _ f.1 in
    let k = length xs - 256 in
    record {
      ascends = a.0;
      many = eqb-true _ _ b.0;
      ends = eqb-true _ _ d.0;
      room = eqb-true _ _ f.0;
      each = placed_from c.stamps xs g.0;
      few = omega (arith, eqb-true _ _ g.1, live_split c.last c.window k xs, live_le c.last c.window (drop k xs), length-drop k xs);
    }

stands : (c : Ring) (xs : List ℕ) → Standing c xs → stands_for c xs ≡ true
unfolding stands_for
stands c xs s =
    let dead = old_dead c.last c.window 0 xs (length xs - 256) s.ascends (omega (arith, s.ends)) (omega (arith, live_le c.last c.window xs, s.few)) in
    and_from _ _ s.ascends (and_from _ _ (eq-eqb _ _ s.many) (and_from _ _ (eq-eqb _ _ s.ends) (and_from _ _ (eq-eqb _ _ s.room) (and_from _ _ (placed_to c.stamps xs s.each) (eq-eqb _ _ dead)))))

-- at a permitted time and span a ring counts the live stamps exactly
pub exact : (c : Ring) (xs : List ℕ) (t v : ℕ) → Standing c xs → c.last ≤ t → v ≤ c.window → live_count t v xs ≡ live_kept c t v
exact c xs t v s in_time within =
    let n = length xs in
    let ends : newest_stamp xs ≡ c.last = s.ends in
    let fewer = live_later t v c.last c.window 0 xs s.ascends (omega arith) in_time within in
    let dead = old_dead t v 0 xs (n - 256) s.ascends (omega arith) (omega (arith, live_le t v xs, s.few)) in
    let kept = newest_live 256 size_256 c.stamps xs n s.room refl s.each t v ∙ ap (λ k. live_count t v (take (min k 256) c.stamps)) s.many in
    omega (arith, live_split t v (n - 256) xs, kept, dead)

-- estimates that are equal are as near as can be
equal_near : (m n : ℕ) → m * (n - n) ≤ n
equal_near m n = let z : n - n ≡ 0 = omega arith in rw (z, mul-zero) (omega arith)

pub ring_keeps : Keeps ring_model
ring_keeps = record {
  list_ascends = λ c xs s. (standing c xs s).ascends;
  list_has_taken = λ c xs s. (standing c xs s).many;
  list_ends_with_last = λ c xs s. (standing c xs s).ends;
  count_lies_between = λ c t v p xs s. let e = exact c xs t v (standing c xs s) p.in_time p.within in (omega arith, omega arith);
  estimates_near = λ c t v p. equal_near c.fineness (live_kept c t v);
  high_bounded = λ c t v p. omega (arith, live_few c t v);
  limit_least = λ c. omega arith;
  limit_most = λ c. omega arith;
}

-- a ring to which t has come stands for each list it stood for, with t at its end
pub grown : (c : Ring) (xs : List ℕ) (t : ℕ) → c.last ≤ t → live_kept c t c.window < 256 → stands_for c xs ≡ true → stands_for (with_newest c t) (xs ++ (t ∷ [])) ≡ true
grown c xs t in_time free st =
    let s = standing c xs st in
    let n = length xs in
    let push : length (xs ++ (t ∷ [])) ≡ n + 1 = length_push xs t in
    let room : length c.stamps ≡ 256 = s.room in
    let place : c.taken % 256 ≡ n % 256 = ap (λ k. k % 256) (sym s.many) in
    let was : live_count t c.window xs < 256 = omega (arith, exact c xs t c.window s in_time (omega arith)) in
    stands (with_newest c t) (xs ++ (t ∷ [])) (record {
      ascends = ascends_push 0 xs t s.ascends (omega (arith, s.ends));
      many = omega (arith, push, s.many);
      ends = last_push 0 xs t;
      room = omega (arith, length-set c.stamps (c.taken % 256) t);
      each = λ r h k. ⊎_elim
          (λ (q : r ≡ n). rw (place, q) (get_or-set_same c.stamps (n % 256) t 0 (omega arith) ∙ sym (get_or_push xs t 0 n refl)))
          (λ ne. let lt : r < n = omega arith in rw place (get_or-set_other c.stamps (n % 256) (r % 256) t 0 (size_256.apart n r lt (omega arith)) ∙ s.each r lt (omega arith) ∙ sym (get_or_append_left xs (t ∷ []) 0 r (omega arith))))
          (cases_eq r n);
      few = omega (arith, live_append t c.window xs (t ∷ []), live_le t c.window (t ∷ []));
    })

-- a stamp that is admitted arrives
pub arrived : (c d : Ring) (t : ℕ) → Admitted (take_causes ring_model c t) → d ≡ with_newest c t → Arrived ring_model c d t
arrived c d t admitted e =
    let facts = admitted_stamp c.last c.taken (live_kept c t c.window) 256 t admitted in
    record {
      grown = λ xs st. ap (λ z. stands_for z (xs ++ (t ∷ []))) e ∙ grown c xs t facts.0 facts.2 st;
      settings = record { window = ap (λ z. z.window) e; fineness = ap (λ z. z.fineness) e; limit = refl };
    }

-- a new ring tells what it was made with, and stands for the empty list
pub fresh : (w f : ℕ) (c : Ring) → c ≡ empty_ring w f → Fresh ring_model w f c
fresh w f c e =
    let empty : stands_for (empty_ring w f) [] ≡ true = stands (empty_ring w f) [] (record { ascends = refl; many = refl; ends = refl; room = refl; each = λ r h k. absurd (omega arith); few = omega arith }) in
    record {
      window = ap (λ z. z.window) e;
      fineness = ap (λ z. z.fineness) e;
      stands_for_empty = ap (λ z. stands_for z []) e ∙ empty;
      last = ap (λ z. z.last) e;
      taken = ap (λ z. z.taken) e;
    }
