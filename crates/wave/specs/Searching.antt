-- Searches among the numbers below a bound find what they are named for.
use Rattle.std.specs.Prelude.{◌≡◌, ℕ, zero, suc, ◌<◌, ◌≤◌, Bool, true, false, cond, ◌⊎◌, refl}
use Rattle.std.proofs.Common.{sym, ap, ◌∙◌, inl, inr, ⊎_elim, arith}
use Rattle.std.proofs.lemmas.Bool.{cases_Bool, cases_eq, both_ways, cond-true, cond-false}
use Rattle.wave.specs.Searches.{first_below, last_below}

-- the smallest that passes
pub first_le : (p : ℕ → Bool) (d n : ℕ) → n ≤ d → first_below p d n ≤ d
unfolding first_below
first_le p d zero h = omega arith
first_le p d (suc n) h =
    ⊎_elim
    (λ e. let c = cond-true (p n) n d e in let i = first_le p n n (omega arith) in rw c (omega arith))
    (λ e. let c = cond-false (p n) n d e in rw c (first_le p d n (omega arith)))
    (cases_Bool (p n))

pub first_least : (p : ℕ → Bool) (d n r : ℕ) → r < n → p r ≡ true → first_below p d n ≤ r
unfolding first_below
first_least p d zero r h e = absurd (omega arith)
first_least p d (suc n) r h e =
    ⊎_elim
    (λ (q : r ≡ n). let c = cond-true (p n) n d (ap p (sym q) ∙ e) in let i = first_le p n n (omega arith) in rw c (omega arith))
    (λ ne. first_least p (cond (p n) n d) n r (omega arith) e)
    (cases_eq r n)

pub first_passes : (p : ℕ → Bool) (d n : ℕ) → (first_below p d n ≡ d) ⊎ ((first_below p d n < n) × (p (first_below p d n) ≡ true))
unfolding first_below
first_passes p d zero = inl refl
first_passes p d (suc n) =
    ⊎_elim
    (λ e. let c = cond-true (p n) n d e in
    rw c (⊎_elim (λ (i : first_below p n n ≡ n). inr (omega arith, ap p i ∙ e)) (λ i. inr (omega (arith, i.0), i.1)) (first_passes p n n)))
    (λ e. let c = cond-false (p n) n d e in
    rw c (⊎_elim (λ i. inl i) (λ i. inr (omega (arith, i.0), i.1)) (first_passes p d n)))
    (cases_Bool (p n))

-- the largest that passes, where one does
pub last_greatest : (p : ℕ → Bool) (d n r : ℕ) → r < n → p r ≡ true → (r ≤ last_below p d n) × (last_below p d n < n) × (p (last_below p d n) ≡ true)
unfolding last_below
last_greatest p d zero r h e = absurd (omega arith)
last_greatest p d (suc n) r h e =
    ⊎_elim
    (λ k. let c = cond-true (p n) n (last_below p d n) k in rw c (omega arith, omega arith, k))
    (λ k. let c = cond-false (p n) n (last_below p d n) k in
    let ne : r ≡ n → ⊥ = λ q. both_ways (p n) k (ap p (sym q) ∙ e) in
    let i = last_greatest p d n r (omega arith) e in rw c (i.0, omega (arith, i.1), i.2))
    (cases_Bool (p n))

-- none passes
pub last_none : (p : ℕ → Bool) (d n : ℕ) → ((r : ℕ) → r < n → p r ≡ false) → last_below p d n ≡ d
unfolding last_below
last_none p d zero f = refl
last_none p d (suc n) f = cond-false (p n) n (last_below p d n) (f n (omega arith)) ∙ last_none p d n (λ r h. f r (omega arith))
