-- Worked cases: a window of 100 and fineness 1, arrivals at 1, 2, .. 7.
use Rattle.std.specs.Prelude.{◌≡◌, ℕ, zero, suc, true}
use Rattle.wave.specs.Waves.{sound, wave_low, wave_high, fresh, arrived}
use Rattle.wave.specs.declared.Wave.{Wave}

-- the wave after arrivals at 1, 2, .. k
unfoldable pub after : ℕ → Wave
after zero = fresh 100 1
after (suc k) = arrived (after k) (suc k)

-- what it counts at 7, after seven arrivals
pub record WorkedCases : Type 0 where
  pub is_sound : sound (after 7) ≡ true
  pub over_seven : (wave_low (after 7) 7 7 ≡ 6) × (wave_high (after 7) 7 7 ≡ 7)
  pub over_four : (wave_low (after 7) 7 4 ≡ 4) × (wave_high (after 7) 7 4 ≡ 5)
  pub over_three : (wave_low (after 7) 7 3 ≡ 3) × (wave_high (after 7) 7 3 ≡ 3)
