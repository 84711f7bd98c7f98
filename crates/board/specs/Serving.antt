-- Serving any one call on a board.
use Rattle.std.specs.Prelude.{◌≡◌, ℕ, List, Ok, Err, Result}
use Rattle.window.specs.Meaning.{Model}
use Rattle.listing.specs.declared.Listed.{Listed}
use Rattle.daybook.specs.Book as book
use Rattle.board.specs.declared.held.Board.{Board}
use Rattle.board.specs.declared.records.Record.{Record}
use Rattle.board.specs.declared.faults.Fault.{Fault}
use Rattle.board.specs.declared.calls.Call.{Call}
use Rattle.board.specs.declared.calls.Call.TheVariants.{Enrol, Play, Ask, Range, List as Listing}
use Rattle.board.specs.declared.calls.Answer.{Answer}
use Rattle.board.specs.declared.calls.Answer.TheVariants.{Key, Taken, Estimate, Count}
use Rattle.board.specs.Outcomes.{EnrolOutcome, PlayOutcome, AskOutcome, RangeOutcome}
use Rattle.board.specs.Lists.{ListOutcome}

-- a call as the day book notes it
abbrev pub called : Call → book.Call
called (Enrol serial) = book.enrol serial.now
called (Play serial t) = book.play serial.now t
called (Ask serial t v) = book.ask serial.now t v
called (Range first last t v) = book.range first last t v
called (Listing least t v) = book.list least t v

-- an answer of one kind, of whose content P holds
abbrev pub Wrapped : {A : Type 0} → (A → Answer) → (Result A Fault → Type 0) → Result Answer Fault → Type 0
Wrapped {A} kind P (Ok a) = (x : A) × (a ≡ kind x) × P (Ok x)
Wrapped kind P (Err f) = P (Err f)

-- a low and a high as an answer
abbrev pub estimate : ℕ × ℕ → Answer
estimate pair = Estimate pair.0 pair.1

-- what serving a call promises: what that call promises, and that all else that was lent is as it was
abbrev pub Served : {C : Type 0} → Model C → (before after : Board) (cells told : List C) (records left : List Record) (places shown : List Listed) → Call → Result Answer Fault → Type 0
Served m before after cells told records left places shown (Enrol serial) r =
    Wrapped Key (EnrolOutcome before after cells records left serial.now) r × (told ≡ cells) × (shown ≡ places)
Served m before after cells told records left places shown (Play serial t) r =
    Wrapped Taken (PlayOutcome m before after cells told records serial.now t) r × (left ≡ records) × (shown ≡ places)
Served m before after cells told records left places shown (Ask serial t v) r =
    Wrapped estimate (AskOutcome m before cells records serial.now t v) r × (after ≡ before) × (told ≡ cells) × (left ≡ records) × (shown ≡ places)
Served m before after cells told records left places shown (Range first last t v) r =
    Wrapped estimate (RangeOutcome m before cells records first last t v) r × (after ≡ before) × (told ≡ cells) × (left ≡ records) × (shown ≡ places)
Served m before after cells told records left places shown (Listing least t v) r =
    Wrapped Count (ListOutcome m before cells records places shown least t v) r × (after ≡ before) × (told ≡ cells) × (left ≡ records)
