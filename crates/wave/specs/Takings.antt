-- What a wave holds after a taking.
use Rattle.std.specs.Prelude.{◌≡◌, ℕ, ◌≤◌, true, false, Ok, Err, Decides, Result}
use Rattle.window.specs.declared.CounterFault.{CounterFault}
use Rattle.wave.specs.Ranks.{top, keeps, Newest}
use Rattle.wave.specs.Waves.{stamp_of, sound, arrived}
use Rattle.wave.specs.declared.Wave.{Wave}

-- each level keeps its newest 2 m + 1 ranks: the new one has stamp t at all its levels, the others were kept there with the stamp they have
pub record LevelsKeep (before after : Wave) (t : ℕ) : Type 0 where
  pub newest : (j r : ℕ) → j ≤ 11 → Decides (keeps after.taken after.fineness j r) (Newest after.taken after.fineness j r)
  pub new_rank : (j : ℕ) → j ≤ top after.taken → keeps after.taken after.fineness j after.taken ≡ true
  pub new_stamp : stamp_of after after.taken ≡ t
  pub old_ranks : (j r : ℕ) → r ≤ before.taken → keeps after.taken after.fineness j r ≡ true → keeps before.taken before.fineness j r ≡ true
  pub old_stamps : (j r : ℕ) → r ≤ before.taken → keeps after.taken after.fineness j r ≡ true → stamp_of after r ≡ stamp_of before r

-- a wave that has taken t: where it was not sound, only the last stamp and the number taken change
pub record Grown (before after : Wave) (t : ℕ) : Type 0 where
  pub arrives : after ≡ arrived before t
  pub levels_keep : sound before ≡ true → LevelsKeep before after t
  pub stamps_stay : sound before ≡ false → after.stamps ≡ before.stamps

-- a taking grows the wave, a refusal leaves it
abbrev pub Recorded : Wave → Wave → ℕ → Result (Unit {0}) CounterFault → Type 0
Recorded before after t (Ok u) = Grown before after t
Recorded before after t (Err f) = after ≡ before
