-- Sums, the smallest and the largest over the numbers below n.
use Rattle.std.proofs.Common.{◌≡◌, ℕ, zero, suc, ◌+◌, ◌*◌, ◌<◌, ◌≤◌, min, max, refl, ap, subst, ⊎_elim, add-one, arith}
use Rattle.std.proofs.lemmas.Bool.{cases_eq, cases_lt}
use Rattle.sketch.specs.Extremes.{sum_below, least_below, most_below}

-- a sum has the bound that each part has
pub sum_scaled : (c d : ℕ) (f g : ℕ → ℕ) (n : ℕ) → ((i : ℕ) → i < n → c * f i ≤ d * g i) → c * sum_below f n ≤ d * sum_below g n
sum_scaled c d f g zero h = omega arith
sum_scaled c d f g (suc n) h =
    let here : c * f n ≤ d * g n = h n (omega arith) in
    let rest : c * sum_below f n ≤ d * sum_below g n = sum_scaled c d f g n (λ i l. h i (omega arith)) in
    omega arith

pub sum_same : (f g : ℕ → ℕ) (n : ℕ) → ((i : ℕ) → i < n → f i ≡ g i) → sum_below f n ≡ sum_below g n
sum_same f g zero h = refl
sum_same f g (suc n) h = omega (arith, h n (omega arith), sum_same f g n (λ i l. h i (omega arith)))

pub sum_adds : (h f g : ℕ → ℕ) (n : ℕ) → ((i : ℕ) → i < n → h i ≡ f i + g i) → sum_below h n ≡ sum_below f n + sum_below g n
sum_adds h f g zero e = refl
sum_adds h f g (suc n) e = omega (arith, e n (omega arith), sum_adds h f g n (λ i l. e i (omega arith)))

pub sum_none : (f : ℕ → ℕ) (n : ℕ) → ((i : ℕ) → i < n → f i ≡ 0) → sum_below f n ≡ 0
sum_none f zero h = refl
sum_none f (suc n) h = omega (arith, h n (omega arith), sum_none f n (λ i l. h i (omega arith)))

-- a sum with one part that counts
pub sum_one : (f : ℕ → ℕ) (j n : ℕ) → j < n → ((i : ℕ) → i < n → (i ≡ j → ⊥) → f i ≡ 0) → sum_below f n ≡ f j
sum_one f j zero l h = omega arith
sum_one f j (suc n) l h =
    ⊎_elim
    (λ (e : n ≡ j). let z = sum_none f n (λ i k. h i (omega arith) (omega arith)) in let w = ap f e in omega arith)
    (λ (e : n ≡ j → ⊥). let z = h n (omega arith) e in let w = sum_one f j n (omega arith) (λ i k. h i (omega arith)) in omega arith)
    (cases_eq n j)

-- the smallest is at most each, and is one of them
pub least_le : (f : ℕ → ℕ) (n r : ℕ) → r < n → least_below f n ≤ f r
least_le f zero r l = omega arith
least_le f (suc zero) r l = let e : r ≡ 0 = omega arith in let w = ap f e in omega arith
least_le f (suc (suc n)) r l =
    ⊎_elim
    (λ (e : suc n ≡ r). let w = ap f e in omega arith)
    (λ (e : suc n ≡ r → ⊥). let w = least_le f (suc n) r (omega arith) in omega arith)
    (cases_eq (suc n) r)

min_from : (P : ℕ → Type 0) (a b : ℕ) → P a → P b → P (min a b)
min_from P a b p q =
    ⊎_elim
    (λ (l : a < b). let e : a ≡ min a b = omega arith in subst P e p)
    (λ (l : b ≤ a). let e : b ≡ min a b = omega arith in subst P e q)
    (cases_lt a b)

pub least_from : (P : ℕ → Type 0) (f : ℕ → ℕ) (n : ℕ) → 0 < n → ((r : ℕ) → r < n → P (f r)) → P (least_below f n)
least_from P f zero l h = absurd (omega arith)
least_from P f (suc zero) l h = h 0 (omega arith)
least_from P f (suc (suc n)) l h =
    let rest : P (least_below f (suc n)) = least_from P f (suc n) (omega arith) (λ r k. h r (omega arith)) in
    let here : P (f (suc n)) = h (suc n) (omega arith) in
    min_from P (least_below f (suc n)) (f (suc n)) rest here

pub most_ge : (f : ℕ → ℕ) (n r : ℕ) → r < n → f r ≤ most_below f n
most_ge f zero r l = omega arith
most_ge f (suc n) r l =
    ⊎_elim
    (λ (e : n ≡ r). let w = ap f e in omega arith)
    (λ (e : n ≡ r → ⊥). let w = most_ge f n r (omega arith) in omega arith)
    (cases_eq n r)

pub most_le : (f : ℕ → ℕ) (n top : ℕ) → ((r : ℕ) → r < n → f r ≤ top) → most_below f n ≤ top
most_le f zero top h = omega arith
most_le f (suc n) top h = omega (arith, h n (omega arith), most_le f n top (λ r l. h r (omega arith)))

pub most_same : (f g : ℕ → ℕ) (n : ℕ) → ((r : ℕ) → r < n → f r ≡ g r) → most_below f n ≡ most_below g n
most_same f g zero h = refl
most_same f g (suc n) h = omega (arith, h n (omega arith), most_same f g n (λ r l. h r (omega arith)))

-- one more, as a loop has it
pub sum_more : (f : ℕ → ℕ) (n : ℕ) → sum_below f (n + 1) ≡ sum_below f n + f n
sum_more f n = rw add-one refl

pub most_more : (f : ℕ → ℕ) (n : ℕ) → most_below f (n + 1) ≡ max (most_below f n) (f n)
most_more f n = rw add-one refl

pub least_more : (f : ℕ → ℕ) (n : ℕ) → 0 < n → least_below f (n + 1) ≡ min (least_below f n) (f n)
least_more f zero h = absurd (omega arith)
least_more f (suc n) h = rw add-one refl
