-- Counting with a weaker test counts no less; the live stamps of what a test keeps.
use Rattle.std.proofs.Common.{◌≡◌, ℕ, ◌+◌, ◌≤◌, Bool, true, false, cond, ◌&&◌, List, [], ◌∷◌, map, count_by, filter, refl, arith}
use Rattle.std.specs.List.{AllByRecursion}
use Rattle.std.proofs.lemmas.List.Sums.{sum_by-cons}
use Rattle.std.proofs.lemmas.Bool.{false≢true, and_right}
use Rattle.window.specs.Stamps.{is_live, live_count, last_or}

pub countBy_cons : {X : Type 0} (p : X → Bool) (x : X) (xs : List X) → count_by p (x ∷ xs) ≡ cond (p x) 1 0 + count_by p xs
countBy_cons p x xs = sum_by-cons (λ x. cond (p x) 1 0) x xs

pub and_true : (b : Bool) → (b && true) ≡ b
and_true true = refl
and_true false = refl

cond_le : (p q : Bool) → (p ≡ true → q ≡ true) → cond p 1 0 ≤ cond q 1 0
cond_le true true h = omega arith
cond_le true false h = absurd (false≢true (h refl))
cond_le false true h = omega arith
cond_le false false h = omega arith

-- a weaker test counts no less, over what P holds of
pub countBy_weaker : {X : Type 0} (P : X → Type 0) (p q : X → Bool) (xs : List X) → AllByRecursion P xs → ((x : X) → P x → p x ≡ true → q x ≡ true) → count_by p xs ≤ count_by q xs
countBy_weaker P p q [] a h = omega arith
countBy_weaker P p q (x ∷ xs) a h =
    omega (arith, countBy_cons p x xs, countBy_cons q x xs, cond_le (p x) (q x) (h x a.0), countBy_weaker P p q xs a.1 h)

-- the live stamps of what a test keeps
live_kept_cons : {X : Type 0} (t v : ℕ) (stamp : X → ℕ) (b : Bool) (x : X) (rest : List X)
    → live_count t v (map stamp (cond b (x ∷ rest) rest)) ≡ cond (is_live t v (stamp x) && b) 1 0 + live_count t v (map stamp rest)
live_kept_cons t v stamp true x rest =
    rw and_true (countBy_cons (is_live t v) (stamp x) (map stamp rest))
live_kept_cons t v stamp false x rest = rw (and_right (is_live t v (stamp x)) false refl) (omega arith)

pub live_kept : {X : Type 0} (t v : ℕ) (stamp : X → ℕ) (test : X → Bool) (xs : List X)
    → live_count t v (map stamp (filter test xs)) ≡ count_by (λ x. is_live t v (stamp x) && test x) xs
live_kept t v stamp test [] = refl
live_kept t v stamp test (x ∷ xs) =
    omega (arith, live_kept_cons t v stamp (test x) x (filter test xs), live_kept t v stamp test xs, countBy_cons (λ x. is_live t v (stamp x) && test x) x xs)

-- the last of numbers none of which is above n
pub last_le : (n a : ℕ) (xs : List ℕ) → a ≤ n → AllByRecursion (λ x. x ≤ n) xs → last_or a xs ≤ n
last_le n a [] h all = h
last_le n a (x ∷ xs) h all = last_le n x xs all.0 all.1
