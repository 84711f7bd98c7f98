-- Why a call is refused: for each call its causes, in the order of their numbers.
use Rattle.std.specs.Prelude.{ℕ, Bool, not, ◌||◌, List, [], ◌∷◌, ◌++◌, length, Ok, Err, Result, ◌==◌, nat_le, nat_lt}
use Rattle.window.specs.Causes.{Admitted, Refused}
use Rattle.window.specs.Faults.{most_taken}
use Rattle.sketch.specs.Layout.{shape_of, keys, cell_number}
use Rattle.daybook.specs.Book.{Serial, key_in}
use Rattle.board.specs.declared.held.Board.{Board}
use Rattle.board.specs.declared.records.Record.{Record}
use Rattle.board.specs.declared.faults.Refusal.{Refusal}
use Rattle.board.specs.Serials.{is_serial, serials_of}
use Rattle.board.specs.Faults.{refusal_number, refusal_values}

-- a cause: its number, the values that it tells, and whether it applies
abbrev pub Cause : Type 0
Cause = (ℕ × List ℕ) × Bool

-- what a refusal of the board is known by
abbrev pub label : Refusal → ℕ × List ℕ
label r = (refusal_number r, refusal_values r)

-- a test of causes: passed where none applies, else refused with the first that does
abbrev pub Tested : List Cause → Result (Unit {0}) Refusal → Type 0
Tested causes (Ok u) = Admitted causes
Tested causes (Err f) = Refused causes (label f)

-- tests of causes: where none applies P holds of what is answered, else the first that does refuses
abbrev pub Unless : {A : Type 0} → List Cause → (A → Type 0) → Result A Refusal → Type 0
Unless causes P (Ok a) = Admitted causes × P a
Unless causes P (Err f) = Refused causes (label f)

-- of every call but open, with so many cells and records lent
abbrev pub ready_causes : Board → ℕ → ℕ → List Cause
ready_causes b cells records =
    ((1, []), not b.opened) ∷ (((3, []), not (cells == cell_number (shape_of b.sketch)) || nat_lt records (keys (shape_of b.sketch))) ∷ [])

-- of a serial that should be enrolled
abbrev pub known_causes : List Serial → List ℕ → List Cause
known_causes enrolled bytes = ((5, []), not (is_serial bytes)) ∷ (((8, []), nat_le (length enrolled) (key_in enrolled bytes)) ∷ [])

-- of a time and a span
abbrev pub time_causes : Board → ℕ → ℕ → List Cause
time_causes b t v = ((9, b.clock ∷ []), nat_lt t b.clock) ∷ (((10, []), (v == 0) || nat_lt b.sketch.window v) ∷ [])

-- of a key range
abbrev pub keys_causes : Board → ℕ → ℕ → List Cause
keys_causes b first last = ((11, []), nat_lt last first || nat_le (keys (shape_of b.sketch)) last) ∷ []

-- of a stamp
abbrev pub stamp_causes : Board → ℕ → List Cause
stamp_causes b t = ((9, b.clock ∷ []), nat_lt t b.clock) ∷ (((13, []), nat_le most_taken b.accepted) ∷ [])

-- of a threshold
abbrev pub threshold_causes : ℕ → List Cause
threshold_causes g = ((12, []), (g == 0)) ∷ []

-- of a list, but for the cells and the places for its keys
abbrev pub list_causes : Board → ℕ → ℕ → (g t v : ℕ) → List Cause
list_causes b cells records g t v = ready_causes b cells records ++ (time_causes b t v ++ threshold_causes g)

-- of a question about a key range
abbrev pub range_causes : Board → ℕ → ℕ → (first last t v : ℕ) → List Cause
range_causes b cells records first last t v = ready_causes b cells records ++ (time_causes b t v ++ keys_causes b first last)

-- of a question about one cabinet
abbrev pub ask_causes : Board → ℕ → List Record → List ℕ → (t v : ℕ) → List Cause
ask_causes b cells records serial t v = ready_causes b cells (length records) ++ (known_causes (serials_of b.enrolled records) serial ++ time_causes b t v)

-- of a play
abbrev pub play_causes : Board → ℕ → List Record → List ℕ → ℕ → List Cause
play_causes b cells records serial t = ready_causes b cells (length records) ++ (known_causes (serials_of b.enrolled records) serial ++ stamp_causes b t)

-- of a serial that should be enrolled anew
abbrev pub fresh_causes : Board → List Serial → List ℕ → List Cause
fresh_causes b enrolled bytes =
    ((5, []), not (is_serial bytes)) ∷ (((6, key_in enrolled bytes ∷ []), nat_lt (key_in enrolled bytes) (length enrolled)) ∷ (((7, []), nat_le (keys (shape_of b.sketch)) b.enrolled) ∷ []))

-- of an enrolment
abbrev pub enrol_causes : Board → ℕ → List Record → List ℕ → List Cause
enrol_causes b cells records serial = ready_causes b cells (length records) ++ fresh_causes b (serials_of b.enrolled records) serial
