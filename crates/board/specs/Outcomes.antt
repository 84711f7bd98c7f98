-- What each call answers, and what it leaves.
use Rattle.std.specs.Prelude.{◌≡◌, ℕ, ◌+◌, List, length, Ok, Err, Result, slice_set}
use Rattle.window.specs.Causes.{Admitted, Refused}
use Rattle.sketch.specs.declared.faults.CellFault.{CellFault}
use Rattle.window.specs.Meaning.{Model}
use Rattle.sketch.specs.Layout.{shape_of}
use Rattle.sketch.specs.Telling.{NamesFirst}
use Rattle.sketch.specs.Pieces.{over_pieces}
use Rattle.sketch.specs.Answers.{RangeAnswer, refusing_cells}
use Rattle.daybook.specs.Book.{key_in}
use Rattle.daybook.specs.Boards.{State, low_of, high_of}
use Rattle.daybook.specs.Runs.{Plays, Enrols}
use Rattle.board.specs.declared.held.Board.{Board as OneBoard}
use Rattle.board.specs.declared.records.Record.{Record}
use Rattle.board.specs.Serials.{serials_of}
use Rattle.board.specs.Held.{state_of}
use Rattle.board.specs.declared.faults.Fault.{Fault}
use Rattle.board.specs.declared.faults.Fault.TheVariants.{Board, Cell}
use Rattle.board.specs.Causes.{Cause, label, enrol_causes, play_causes, range_causes, ask_causes}

-- a call with these causes: refused by the first that applies, and then nothing changed; else as the cells answer
abbrev pub Outcome : {A : Type 0} → List Cause → Type 0 → (Result A CellFault → Type 0) → Result A Fault → Type 0
Outcome causes unchanged P (Ok a) = Admitted causes × P (Ok a)
Outcome causes unchanged P (Err (Board f)) = Refused causes (label f) × unchanged
Outcome causes unchanged P (Err (Cell f)) = Admitted causes × P (Err f)

-- a play was accepted: the answer is the number of plays, the step is a play, and the board is the same but for its clock and number of plays
pub record Played {C : Type 0} (m : Model C) (before after : OneBoard) (cells told : List C) (records : List Record) (bytes : List ℕ) (t n : ℕ) : Type 0 where
  pub answer : n ≡ before.accepted + 1
  pub step : Plays m (state_of before cells records) bytes t (state_of after told records)
  pub opened : after.opened ≡ before.opened
  pub sketch : after.sketch ≡ before.sketch
  pub enrolled : after.enrolled ≡ before.enrolled

-- what a play answers where only a cell can refuse it: then the first that does is named, and nothing changed
abbrev pub PlayAnswer : {C : Type 0} → Model C → (before after : OneBoard) → (cells told : List C) → List Record → List ℕ → ℕ → Result ℕ CellFault → Type 0
PlayAnswer m before after cells told records bytes t (Ok n) = Played m before after cells told records bytes t n
PlayAnswer m before after cells told records bytes t (Err f) = (after ≡ before) × (told ≡ cells) × NamesFirst m (shape_of before.sketch) (key_in (serials_of before.enrolled records) bytes) t 0 cells f

-- a serial was enrolled: the answer is its key, the step is an enrolment, its record stands next in the register, and the board is the same but for the number enrolled
pub record EnrolledAs {C : Type 0} (before after : OneBoard) (cells : List C) (records left : List Record) (bytes : List ℕ) (key : ℕ) : Type 0 where
  pub answer : key ≡ before.enrolled
  pub step : Enrols (state_of before cells records) bytes (state_of after cells left)
  pub register : left ≡ slice_set records before.enrolled (record { serial = bytes })
  pub opened : after.opened ≡ before.opened
  pub sketch : after.sketch ≡ before.sketch

-- no cell is asked when a serial is enrolled
abbrev pub EnrolAnswer : {C : Type 0} → (before after : OneBoard) → List C → (records left : List Record) → List ℕ → Result ℕ CellFault → Type 0
EnrolAnswer before after cells records left bytes (Ok key) = EnrolledAs before after cells records left bytes key
EnrolAnswer before after cells records left bytes (Err f) = ⊥

-- what enrolling promises; a refusal leaves board and register as they were
abbrev pub EnrolOutcome : {C : Type 0} → (before after : OneBoard) → List C → (records left : List Record) → List ℕ → Result ℕ Fault → Type 0
EnrolOutcome before after cells records left bytes r =
    Outcome (enrol_causes before (length cells) records bytes) ((after ≡ before) × (left ≡ records)) (EnrolAnswer before after cells records left bytes) r

-- what a play promises; a refusal leaves board and cells as they were
abbrev pub PlayOutcome : {C : Type 0} → Model C → (before after : OneBoard) → (cells told : List C) → List Record → List ℕ → ℕ → Result ℕ Fault → Type 0
PlayOutcome m before after cells told records bytes t r =
    Outcome (play_causes before (length cells) records bytes t) ((after ≡ before) × (told ≡ cells)) (PlayAnswer m before after cells told records bytes t) r

-- the low and high of the keys from a to b, where no cell of a piece refuses; else a fault names one that does
abbrev pub Estimated : {C : Type 0} → Model C → State C → (t v a b : ℕ) → Result (ℕ × ℕ) CellFault → Type 0
Estimated {C} m σ t v a b (Ok pair) =
    (d : C) → (over_pieces σ.shape.bits a b (refusing_cells m σ.shape σ.cells d t v) ≡ 0) × (pair.0 ≡ low_of m σ d t v a b) × (pair.1 ≡ high_of m σ d t v a b)
Estimated m σ t v a b (Err f) = RangeAnswer m σ.shape σ.cells (length σ.register) t v a b (Err f)

-- what a question about the keys from first to last promises
abbrev pub RangeOutcome : {C : Type 0} → Model C → OneBoard → List C → List Record → (first last t v : ℕ) → Result (ℕ × ℕ) Fault → Type 0
RangeOutcome m b cells records first last t v r =
    Outcome (range_causes b (length cells) (length records) first last t v) (Unit {0}) (Estimated m (state_of b cells records) t v first last) r

-- what a question about one cabinet promises: the answer for its key
abbrev pub AskOutcome : {C : Type 0} → Model C → OneBoard → List C → List Record → List ℕ → (t v : ℕ) → Result (ℕ × ℕ) Fault → Type 0
AskOutcome m b cells records bytes t v r =
    let key = key_in (serials_of b.enrolled records) bytes in
    Outcome (ask_causes b (length cells) records bytes t v) (Unit {0}) (Estimated m (state_of b cells records) t v key key) r
