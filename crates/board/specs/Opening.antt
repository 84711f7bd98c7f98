-- Opening a board.
use Rattle.std.specs.Prelude.{◌≡◌, ℕ, ◌+◌, ◌-◌, ◌*◌, ◌^◌, ◌<◌, ◌≤◌, Bool, true, not, ◌&&◌, List, [], ◌∷◌, ◌++◌, length, replicate, Ok, Err, Result, ◌==◌, nat_le, nat_lt, slice_index, slice_index_or}
use Rattle.std.specs.List.{prefix_len}
use Rattle.window.specs.Meaning.{Model, Fresh}
use Rattle.sketch.specs.declared.shape.Sketch.{Sketch}
use Rattle.sketch.specs.declared.faults.CellFault.{CellFault}
use Rattle.daybook.specs.Runs.{Run}
use Rattle.board.specs.declared.held.Board.{Board}
use Rattle.board.specs.declared.records.Record.{Record}
use Rattle.board.specs.declared.openings.Dimensions.{Dimensions}
use Rattle.board.specs.Causes.{Cause}
use Rattle.board.specs.Held.{state_of}

-- the shape numbers lie in their ranges
abbrev pub in_range : Dimensions → Bool
in_range a = nat_le 1 a.window && (nat_le 1 a.fineness && (nat_le a.fineness 6 && (nat_le a.bits 10 && (nat_le 1 a.rows && (nat_le a.rows 4 && nat_le a.spread 8)))))

-- there are as many words and cells as the shape wants, and a record for each key
abbrev pub is_sized : Dimensions → (words cells records : ℕ) → Bool
is_sized a words cells records =
    (words == (a.bits + 1) * a.rows * a.bits) && (cells == (a.bits + 1) * a.rows * 2 ^ a.spread && nat_le (2 ^ a.bits) records)

-- how many words stand before the first that is no column
abbrev pub first_wide : ℕ → List ℕ → ℕ
first_wide width words = prefix_len (λ x. nat_lt x width) words

-- why an opening is refused
abbrev pub open_causes : Dimensions → List ℕ → (cells records : ℕ) → List Cause
open_causes a words cells records =
    ((2, []), not (in_range a)) ∷ (((3, []), not (is_sized a (length words) cells records)) ∷ (((4, first_wide (2 ^ a.spread) words ∷ []), nat_lt (first_wide (2 ^ a.spread) words) (length words)) ∷ []))

-- shape numbers in their ranges, with few enough words, each of which is a column
pub record Fits (a : Dimensions) (given : List ℕ) : Type 0 where
  pub some_window : 0 < a.window
  pub some_fineness : 0 < a.fineness
  pub fineness : a.fineness ≤ 6
  pub bits : a.bits ≤ 10
  pub some_row : 0 < a.rows
  pub rows : a.rows ≤ 4
  pub spread : a.spread ≤ 8
  pub few : length given ≤ 440
  pub narrow : (p : ℕ) → slice_index given p < 2 ^ a.spread

-- a sketch with these shape numbers and its own copy of the words
pub record SketchOf (a : Dimensions) (given : List ℕ) (s : Sketch) : Type 0 where
  pub window : s.window ≡ a.window
  pub fineness : s.fineness ≡ a.fineness
  pub bits : s.bits ≡ a.bits
  pub rows : s.rows ≡ a.rows
  pub spread : s.spread ≡ a.spread
  pub words : s.words ≡ given ++ replicate (440 - length given) 0

-- a board was opened: every cell is new, every record is empty, nothing is enrolled or played, and runs of calls begin
pub record OpenedAs {C : Type 0} (m : Model C) (a : Dimensions) (words : List ℕ) (after : Board) (cells : List C) (records : List Record) (n : ℕ) : Type 0 where
  pub answer : n ≡ length cells
  pub opened : after.opened ≡ true
  pub sketch : SketchOf a words after.sketch
  pub enrolled : after.enrolled ≡ 0
  pub clock : after.clock ≡ 0
  pub accepted : after.accepted ≡ 0
  pub fresh_cells : (k : ℕ) (d : C) → k < length cells → Fresh m a.window a.fineness (slice_index_or cells k d)
  pub empty_records : (k : ℕ) (d : Record) → k < length records → (slice_index_or records k d).serial ≡ replicate 16 0
  pub begins : Run m (state_of after cells records) []

-- no cell is asked when a board is opened
abbrev pub OpenAnswer : {C : Type 0} → Model C → Dimensions → List ℕ → Board → List C → List Record → Result ℕ CellFault → Type 0
OpenAnswer m a words after cells records (Ok n) = OpenedAs m a words after cells records n
OpenAnswer m a words after cells records (Err f) = ⊥
