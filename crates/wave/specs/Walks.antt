-- A walk over the kept ranks, newest first: what is known after each.
use Rattle.std.specs.Prelude.{◌≡◌, ℕ, ◌+◌, ◌-◌, ◌<◌, ◌≤◌, min, Bool, true, cond, not, ◌&&◌, ◌||◌, Some, None, Option, ◌==◌, nat_le, nat_lt}
use Rattle.std.specs.Option.{unwrap_or}
use Rattle.window.specs.Stamps.{is_live}
use Rattle.wave.specs.Ranks.{top, keeps, kept}
use Rattle.wave.specs.Waves.{stamp_of, rank_live}
use Rattle.wave.specs.declared.Wave.{Wave}
use Rattle.wave.specs.declared.survey.Seen.{Seen}

-- level j keeps rank r, and every kept rank up to r belongs to level j
pub record StandsAt (n m j r : ℕ) : Type 0 where
  pub keeps : keeps n m j r ≡ true
  pub lowest : (x : ℕ) → kept n m x ≡ true → x ≤ r → j ≤ top x

-- the next stand below rank r, if any: at the largest kept rank below r
abbrev pub Older : (n m r : ℕ) → Option (ℕ × ℕ) → Type 0
Older n m r None = (x : ℕ) → kept n m x ≡ true → r ≤ x
Older n m r (Some stand) =
    (stand.0 < r) × StandsAt n m stand.1 stand.0 × ((x : ℕ) → kept n m x ≡ true → x < r → x ≤ stand.0)

-- rank r with stamp s may stand below ranks whose oldest stamp is newer, as soundness asks; the mark always may
abbrev pub fits : Wave → ℕ → ℕ → ℕ → Bool
fits c r s newer = r == 0 || (nat_le s newer && (nat_lt (c.taken - r) 4095 || not (is_live c.last c.window s)))

-- what is seen after rank r
abbrev pub looked : Wave → ℕ → ℕ → ℕ → Seen → Seen
looked c t v r s = record {
  oldest = stamp_of c r;
  low = cond (rank_live c t v r) (Some (c.taken - r + 1)) s.low;
  high = cond (rank_live c t v r) s.high (Some (unwrap_or s.high (c.taken - r)));
}

-- the low and high that all that was seen gives: without a live rank 0 and 0
abbrev pub estimated_by : Option ℕ → Option ℕ → ℕ × ℕ
estimated_by None high = (0, 0)
estimated_by (Some low) high = (low, min (unwrap_or high low) 8190)

abbrev pub estimated : Seen → ℕ × ℕ
estimated s = estimated_by s.low s.high
