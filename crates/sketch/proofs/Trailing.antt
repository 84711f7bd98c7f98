-- The bits of a number and of the one before it, by the zero bits at its low end.
use Rattle.std.proofs.Common.{◌≡◌, ℕ, zero, suc, ◌+◌, ◌-◌, ◌/◌, ◌%◌, ◌^◌, ◌<◌, ◌≤◌, sym, refl, ap, ◌∙◌, ⊎_elim, arith}
use native.Mathlib.Nat.{pow-succ'}
use lib.Count.{count_trailing_zeros, under}
use Rattle.std.proofs.lemmas.Bool.{cases_eq}
use Rattle.std.proofs.lemmas.Nat.{shr-shr}

even_zeros : (w y : ℕ) → y % 2 ≡ 0 → count_trailing_zeros (suc w) y ≡ suc (count_trailing_zeros w (y / 2))
unfolding count_trailing_zeros
even_zeros w y e = ap (λ b. under b (count_trailing_zeros w (y / 2))) e

odd_zeros : (w y : ℕ) → y % 2 ≡ 1 → count_trailing_zeros (suc w) y ≡ 0
unfolding count_trailing_zeros
odd_zeros w y e = ap (λ b. under b (count_trailing_zeros w (y / 2))) e

none_zeros : (y : ℕ) → count_trailing_zeros 0 y ≡ 0
unfolding count_trailing_zeros
none_zeros y = refl

halved : (n j : ℕ) → n / 2 ^ suc j ≡ n / 2 / 2 ^ j
halved n j = let up : suc j ≡ 1 + j = omega arith in ap (λ k. n / 2 ^ k) up ∙ sym (shr-shr n 1 j)

-- an even number goes down by one with its half
halved_before : (y j : ℕ) → 0 < y → y % 2 ≡ 0 → (y - 1) / 2 ^ suc j ≡ (y / 2 - 1) / 2 ^ j
halved_before y j pos e = halved (y - 1) j ∙ ap (λ n. n / 2 ^ j) (let half : (y - 1) / 2 ≡ y / 2 - 1 = omega arith in half)

-- above the zeros and the bit after them both have the same bits
pub zeros_below : (w y j : ℕ) → j ≤ w → 0 < y → count_trailing_zeros w y < j → y / 2 ^ j ≡ (y - 1) / 2 ^ j
zeros_below zero y j l pos h = absurd (omega arith)
zeros_below (suc w) y zero l pos h = absurd (omega arith)
zeros_below (suc w) y (suc j) l pos h =
    ⊎_elim
    (λ (e : y % 2 ≡ 0). halved y j ∙ zeros_below w (y / 2) j (omega arith) (omega arith) (omega (arith, even_zeros w y e)) ∙ sym (halved_before y j pos e))
    (λ (e : y % 2 ≡ 0 → ⊥). halved y j ∙ ap (λ n. n / 2 ^ j) (let half : y / 2 ≡ (y - 1) / 2 = omega arith in half) ∙ sym (halved (y - 1) j))
    (cases_eq (y % 2) 0)

-- the zeros are ones in the number before
pub bit_below : (w y j : ℕ) → 0 < y → j < count_trailing_zeros w y → (y / 2 ^ j % 2 ≡ 0) × ((y - 1) / 2 ^ j % 2 ≡ 1)
bit_below zero y j pos h = absurd (omega (arith, none_zeros y))
bit_below (suc w) y zero pos h =
    ⊎_elim
    (λ (e : y % 2 ≡ 0). (omega arith, omega arith))
    (λ (e : y % 2 ≡ 0 → ⊥). absurd (omega (arith, odd_zeros w y (omega arith))))
    (cases_eq (y % 2) 0)
bit_below (suc w) y (suc j) pos h =
    ⊎_elim
    (λ (e : y % 2 ≡ 0). let half = bit_below w (y / 2) j (omega arith) (omega (arith, even_zeros w y e)) in (ap (λ n. n % 2) (halved y j) ∙ half.0, ap (λ n. n % 2) (halved_before y j pos e) ∙ half.1))
    (λ (e : y % 2 ≡ 0 → ⊥). absurd (omega (arith, odd_zeros w y (omega arith))))
    (cases_eq (y % 2) 0)

-- the bit after them is set, and clear in the number before
pub bit_after : (w y j : ℕ) → j < w → 0 < y → j ≡ count_trailing_zeros w y → (y / 2 ^ j % 2 ≡ 1) × ((y - 1) / 2 ^ j % 2 ≡ 0)
bit_after zero y j l pos h = absurd (omega arith)
bit_after (suc w) y zero l pos h =
    ⊎_elim
    (λ (e : y % 2 ≡ 0). absurd (omega (arith, even_zeros w y e)))
    (λ (e : y % 2 ≡ 0 → ⊥). (omega arith, omega arith))
    (cases_eq (y % 2) 0)
bit_after (suc w) y (suc j) l pos h =
    ⊎_elim
    (λ (e : y % 2 ≡ 0). let half = bit_after w (y / 2) j (omega arith) (omega arith) (omega (arith, even_zeros w y e)) in (ap (λ n. n % 2) (halved y j) ∙ half.0, ap (λ n. n % 2) (halved_before y j pos e) ∙ half.1))
    (λ (e : y % 2 ≡ 0 → ⊥). absurd (omega (arith, odd_zeros w y (omega arith))))
    (cases_eq (y % 2) 0)

-- a number below 2 to the power of n has fewer zeros there than n
pub few_zeros : (w y n : ℕ) → 0 < y → y < 2 ^ n → count_trailing_zeros w y < n
few_zeros w y zero pos h = absurd (omega arith)
few_zeros zero y (suc n) pos h = omega (arith, none_zeros y)
few_zeros (suc w) y (suc n) pos h =
    ⊎_elim
    (λ (e : y % 2 ≡ 0). omega (arith, even_zeros w y e, few_zeros w (y / 2) n (omega arith) (omega (arith, pow-succ' 2 n))))
    (λ (e : y % 2 ≡ 0 → ⊥). omega (arith, odd_zeros w y (omega arith)))
    (cases_eq (y % 2) 0)
