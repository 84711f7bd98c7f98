-- The live stamps of an arrival list are its newest: what one stamp says of the others.
use Rattle.std.proofs.Common.{◌≡◌, ℕ, zero, suc, ◌+◌, ◌<◌, ◌≤◌, true, false, leb, List, [], ◌∷◌, length, get_or, ⊎_elim, arith}
use Rattle.std.proofs.lemmas.Bool.{and_parts, cases_Bool}
use Rattle.window.specs.Stamps.{is_live, live_count, ascends_from, last_or}
use Rattle.window.proofs.Arrivals.{live_cons, live_yes, live_no, live_le, all_live}

-- a live stamp and all after it are live
pub live_from : (t v lo : ℕ) (xs : List ℕ) (k : ℕ) → ascends_from lo xs ≡ true → last_or lo xs ≤ t → k < length xs → is_live t v (get_or xs k 0) ≡ true → length xs ≤ live_count t v xs + k
live_from t v lo [] k h l less e = absurd (omega arith)
live_from t v lo (x ∷ xs) zero h l less e =
    let p = and_parts (leb lo x) (ascends_from x xs) h in
    omega (arith, live_yes t v x xs e, all_live t v x xs p.1 l e)
live_from t v lo (x ∷ xs) (suc k) h l less e =
    let p = and_parts (leb lo x) (ascends_from x xs) h in
    let less' : k < length xs = omega arith in
    omega (arith, live_cons t v x xs, live_from t v x xs k p.1 l less' e)

-- a dead stamp and all before it are dead
pub dead_to : (t v lo : ℕ) (xs : List ℕ) (k : ℕ) → ascends_from lo xs ≡ true → last_or lo xs ≤ t → k < length xs → is_live t v (get_or xs k 0) ≡ false → live_count t v xs + suc k ≤ length xs
dead_to t v lo [] k h l less e = absurd (omega arith)
dead_to t v lo (x ∷ xs) zero h l less e = omega (arith, live_no t v x xs e, live_le t v xs)
dead_to t v lo (x ∷ xs) (suc k) h l less e =
    let p = and_parts (leb lo x) (ascends_from x xs) h in
    let less' : k < length xs = omega arith in
    let ih = dead_to t v x xs k p.1 l less' e in
    ⊎_elim
    (λ y. absurd (omega (arith, ih, all_live t v x xs p.1 l y)))
    (λ n. omega (arith, ih, live_no t v x xs n))
    (cases_Bool (is_live t v x))
