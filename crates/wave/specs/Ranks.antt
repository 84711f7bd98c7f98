-- Ranks, and the levels that keep them. The arrivals have ranks 1, 2, 3 and so on; rank 0 is a mark.
use Rattle.std.specs.Prelude.{◌≡◌, ℕ, ◌+◌, ◌-◌, ◌*◌, ◌/◌, ◌^◌, ◌≤◌, min, Bool, ◌&&◌, nat_le}
use Rattle.std.specs.Int.Count.{count_trailing_zeros}
use Rattle.window.specs.Below.{any_below}

-- the highest level that rank r belongs to: the number of zero bits at its low end, 11 at most
abbrev pub top : ℕ → ℕ
top r = min 11 (count_trailing_zeros 32 r)

-- level j keeps rank r when n are taken: r belongs to it, is taken, and at most 2 m ranks of the level are newer
unfoldable pub keeps : (n m j r : ℕ) → Bool
keeps n m j r = nat_le j (top r) && (nat_le r n && nat_le (n / 2 ^ j) (r / 2 ^ j + 2 * m))

-- some level keeps rank r
unfoldable pub kept : (n m r : ℕ) → Bool
kept n m r = any_below (λ j. keeps n m j r) 12

-- rank r is one of the newest 2 m + 1 multiples of 2 ^ j up to n, the mark among them where there are fewer
abbrev pub Newest : (n m j r : ℕ) → Type 0
Newest n m j r = (d : ℕ) × (d ≤ 2 * m) × ((n / 2 ^ j - d) * 2 ^ j ≡ r)
