-- Searches among the numbers below a bound.
use Rattle.std.specs.Prelude.{ℕ, zero, suc, Bool, cond}

-- the smallest number below n that passes, or d where none does
unfoldable pub first_below : (ℕ → Bool) → ℕ → ℕ → ℕ
first_below p d zero = d
first_below p d (suc n) = first_below p (cond (p n) n d) n

-- the largest number below n that passes, or d where none does
unfoldable pub last_below : (ℕ → Bool) → ℕ → ℕ → ℕ
last_below p d zero = d
last_below p d (suc n) = cond (p n) n (last_below p d n)
