-- The sum, the smallest and the largest over the numbers below a bound.
use Rattle.std.specs.Prelude.{ℕ, zero, suc, ◌+◌, min, max}

-- f 0 + .. + f (n - 1)
abbrev pub sum_below : (ℕ → ℕ) → ℕ → ℕ
sum_below f zero = 0
sum_below f (suc n) = sum_below f n + f n

-- the smallest of f 0 .. f (n - 1), and 0 of none
abbrev pub least_below : (ℕ → ℕ) → ℕ → ℕ
least_below f zero = 0
least_below f (suc zero) = f 0
least_below f (suc (suc n)) = min (least_below f (suc n)) (f (suc n))

-- the largest of f 0 .. f (n - 1), and 0 of none
abbrev pub most_below : (ℕ → ℕ) → ℕ → ℕ
most_below f zero = 0
most_below f (suc n) = max (most_below f n) (f n)
