-- What soundness and standing for a list say, part by part.
use Rattle.std.specs.Prelude.{◌≡◌, ℕ, suc, ◌<◌, ◌≤◌, true, List, length, slice_index}
use Rattle.window.specs.Stamps.{ascending, newest_stamp}
use Rattle.wave.specs.Waves.{is_kept, stamp_of, low_of}
use Rattle.wave.specs.declared.Wave.{Wave}

-- a sound wave. The number taken alone says which ranks each level keeps, and a rank has one place for all its levels, so one stamp
pub record Sound (c : Wave) : Type 0 where
  pub window_some : 1 ≤ c.window
  pub window_fits : c.window ≤ 4294967295
  pub fineness_least : 1 ≤ c.fineness
  pub fineness_most : c.fineness ≤ 6
  pub has_places : length c.stamps ≡ 104
  pub stamps_rise : (a b : ℕ) → 0 < a → a < b → is_kept c a ≡ true → is_kept c b ≡ true → stamp_of c a ≤ stamp_of c b
  pub stamps_not_late : (r : ℕ) → 0 < r → is_kept c r ≡ true → stamp_of c r ≤ c.last
  pub low_within_limit : low_of c c.last c.window ≤ 4095

-- a wave that stands for a list
pub record StandsFor (c : Wave) (xs : List ℕ) : Type 0 where
  pub sound : Sound c
  pub has_taken : length xs ≡ c.taken
  pub ascends : ascending xs ≡ true
  pub ends_with_last : newest_stamp xs ≡ c.last
  pub holds_stamps : (i : ℕ) → is_kept c (suc i) ≡ true → stamp_of c (suc i) ≡ slice_index xs i
