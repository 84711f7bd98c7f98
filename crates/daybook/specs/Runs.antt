-- Calls one after another, from opening on, and the book that they make.
use Rattle.std.specs.Prelude.{◌≡◌, ℕ, ◌+◌, ◌<◌, ◌≤◌, Bool, true, false, List, [], ◌∷◌, ◌++◌, length}
use Rattle.window.specs.Meaning.{Model}
use Rattle.sketch.specs.Layout.{Sound, keys}
use Rattle.sketch.specs.Laws.{Faithful}
use Rattle.sketch.specs.Telling.{ToldFrom}
use Rattle.daybook.specs.Book.{Book, Call, enrol, play, ask, range, list, Serial, key_in, empty_book, noted}
use Rattle.daybook.specs.Boards.{State}
use Rattle.daybook.specs.Promises.{Guarantee}

-- a board newly opened: every cell stands for no play, and no serial is enrolled
pub record Opened {C : Type 0} (m : Model C) (σ : State C) : Type 0 where
  pub sound : Sound σ.shape
  pub register : σ.register ≡ []
  pub clock : σ.clock ≡ 0
  pub accepted : σ.accepted ≡ 0
  pub cells : Faithful m σ.shape σ.cells []

-- a serial was enrolled: it stands at the end of the register
pub record Enrols {C : Type 0} (before : State C) (s : Serial) (after : State C) : Type 0 where
  pub room : length before.register < keys before.shape
  pub shape : after.shape ≡ before.shape
  pub cells : after.cells ≡ before.cells
  pub register : after.register ≡ before.register ++ s ∷ []
  pub clock : after.clock ≡ before.clock
  pub accepted : after.accepted ≡ before.accepted

-- a play was accepted: the cell of the cabinet's node took the stamp in every level and row, every other cell is as it was, and the clock is the stamp
pub record Plays {C : Type 0} (m : Model C) (before : State C) (s : Serial) (t : ℕ) (after : State C) : Type 0 where
  pub known : key_in before.register s < length before.register
  pub in_time : before.clock ≤ t
  pub shape : after.shape ≡ before.shape
  pub told : ToldFrom m before.shape (key_in before.register s) t 0 before.cells after.cells
  pub register : after.register ≡ before.register
  pub clock : after.clock ≡ t
  pub accepted : after.accepted ≡ before.accepted + 1

-- what a call that was accepted, or refused, makes of a board
abbrev pub Step : {C : Type 0} → Model C → State C → Call → Bool → State C → Type 0
Step m before (enrol s) true after = Enrols before s after
Step m before (enrol s) false after = after ≡ before
Step m before (play s t) true after = Plays m before s t after
Step m before (play s t) false after = after ≡ before
Step m before (ask s t v) accepted after = after ≡ before
Step m before (range a b t v) accepted after = after ≡ before
Step m before (list g t v) accepted after = after ≡ before

-- calls and whether each was accepted, the newest first
abbrev pub History : Type 0
History = List (Call × Bool)

-- the day book of a history
abbrev pub book_of : History → Book
book_of [] = empty_book
book_of (e ∷ h) = noted (book_of h) e.0 e.1

-- the boards that a history of calls can lead to, in any order, with any left out, doubled or refused
pub data Run {C : Type 0} (m : Model C) : State C → History → Type 0 where
  opened : {σ : State C} → Opened m σ → Run m σ []
  next : {σ σ' : State C} {h : History} (call : Call) (accepted : Bool) → Run m σ h → Step m σ call accepted σ' → Run m σ' ((call, accepted) ∷ h)

-- whatever calls led to the board before, they and this one lead to the board after, and that holds against their day book
abbrev pub Lawful : {C : Type 0} → Model C → State C → Call → Bool → State C → Type 0
Lawful m before call accepted after = (h : History) → Run m before h → Run m after ((call, accepted) ∷ h) × Guarantee m after (book_of ((call, accepted) ∷ h))
