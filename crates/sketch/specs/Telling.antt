-- Telling a stamp to the cells of a key, all or none.
use Rattle.std.specs.Prelude.{◌≡◌, ℕ, ◌+◌, ◌*◌, ◌<◌, ◌≤◌, List, [], ◌∷◌, ◌++◌, length, Ok, Err, Result, ◌≢◌, slice_index_or}
use Rattle.window.specs.Causes.{Admitted, Refused}
use Rattle.window.specs.Meaning.{Model}
use Rattle.window.specs.Faults.{number, take_causes, Arrived}
use Rattle.sketch.specs.declared.faults.CellFault.{CellFault}
use Rattle.sketch.specs.Layout.{Shape, node_of, column, place}
use Rattle.sketch.specs.Plays.{KeyedPlay}
use Rattle.sketch.specs.Nodes.{cell_at, cell_of}
use Rattle.sketch.specs.Laws.{Faithful}

-- the rows of all levels in order: by level, then by row
abbrev pub order : Shape → ℕ → ℕ → ℕ
order s k r = k * s.rows + r

-- the place of the cell of key x in row r of level k
abbrev pub key_place : Shape → ℕ → ℕ → ℕ → ℕ
key_place s x k r = place s k r (column s k r (node_of k x))

-- from row n on, the cell of key x took stamp t in every level and row, and every other cell is as it was
pub record ToldFrom {C : Type 0} (m : Model C) (s : Shape) (x t n : ℕ) (before after : List C) : Type 0 where
  pub long : length after ≡ length before
  pub told : (d : C) (k r : ℕ) → k ≤ s.bits → r < s.rows → n ≤ order s k r → Admitted (take_causes m (slice_index_or before (key_place s x k r) d) t) × Arrived m (slice_index_or before (key_place s x k r) d) (slice_index_or after (key_place s x k r) d) t
  pub others : (d : C) (p : ℕ) → ((k r : ℕ) → k ≤ s.bits → r < s.rows → n ≤ order s k r → key_place s x k r ≢ p) → slice_index_or after p d ≡ slice_index_or before p d

-- a fault names the first cell of key x, from row n on, that refuses stamp t
pub record NamesFirst {C : Type 0} (m : Model C) (s : Shape) (x t n : ℕ) (cells : List C) (f : CellFault) : Type 0 where
  pub level : f.level ≤ s.bits
  pub row : f.row < s.rows
  pub column : f.column ≡ column s f.level f.row (node_of f.level x)
  pub stamp : f.stamp ≡ t
  pub refused : (d : C) → Refused (take_causes m (cell_at s cells d f.level f.row f.column) t) (number f.fault)
  pub from_row : n ≤ order s f.level f.row
  pub earlier_take : (d : C) (k r : ℕ) → k ≤ s.bits → r < s.rows → n ≤ order s k r → order s k r < order s f.level f.row → Admitted (take_causes m (cell_of s cells d k (node_of k x) r) t)

-- all of them took it, or none was told and the first that refuses is named
abbrev pub TellsFrom : {C : Type 0} → Model C → Shape → ℕ → ℕ → ℕ → List C → List C → Result (Unit {0}) CellFault → Type 0
TellsFrom m s x t n before after (Ok u) = ToldFrom m s x t n before after
TellsFrom m s x t n before after (Err f) = (after ≡ before) × NamesFirst m s x t n before f

-- a told stamp keeps the cells faithful: to the plays with this one at their end
abbrev pub TellsFaithfully : {C : Type 0} → Model C → Shape → ℕ → ℕ → List C → List C → Result (Unit {0}) CellFault → Type 0
TellsFaithfully m s x t before after (Ok u) = (plays : List KeyedPlay) → Faithful m s before plays → Faithful m s after (plays ++ (record { key = x; stamp = t }) ∷ [])
TellsFaithfully m s x t before after (Err f) = after ≡ before
