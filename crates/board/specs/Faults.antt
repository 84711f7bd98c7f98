-- The refusals of a board: the number of each, and the values that it tells.
use Rattle.std.specs.Prelude.{ℕ, List, [], ◌∷◌}
use Rattle.window.specs.Faults as counters
use Rattle.board.specs.declared.faults.Refusal.{Refusal}
use Rattle.board.specs.declared.faults.Refusal.TheVariants.{NotOpened, OutOfRange, WrongSize, WideWord, NotASerial, AlreadyEnrolled, NoKeyLeft, NotEnrolled, BeforeClock, BadSpan, BadKeys, NoThreshold, AllPlaysTaken, NoRoom}
use Rattle.board.specs.declared.faults.Fault.{Fault}
use Rattle.board.specs.declared.faults.Fault.TheVariants.{Board, Cell}

-- the number of a refusal that the board itself gives
abbrev pub refusal_number : Refusal → ℕ
refusal_number NotOpened = 1
refusal_number OutOfRange = 2
refusal_number WrongSize = 3
refusal_number (WideWord place) = 4
refusal_number NotASerial = 5
refusal_number (AlreadyEnrolled key) = 6
refusal_number NoKeyLeft = 7
refusal_number NotEnrolled = 8
refusal_number (BeforeClock clock) = 9
refusal_number BadSpan = 10
refusal_number BadKeys = 11
refusal_number NoThreshold = 12
refusal_number AllPlaysTaken = 13
refusal_number (NoRoom needed) = 15

-- the values that it tells
abbrev pub refusal_values : Refusal → List ℕ
refusal_values NotOpened = []
refusal_values OutOfRange = []
refusal_values WrongSize = []
refusal_values (WideWord place) = place ∷ []
refusal_values NotASerial = []
refusal_values (AlreadyEnrolled key) = key ∷ []
refusal_values NoKeyLeft = []
refusal_values NotEnrolled = []
refusal_values (BeforeClock clock) = clock ∷ []
refusal_values BadSpan = []
refusal_values BadKeys = []
refusal_values NoThreshold = []
refusal_values AllPlaysTaken = []
refusal_values (NoRoom needed) = needed ∷ []

-- the number of a fault: the board's own, or that of the cell that refuses
abbrev pub number : Fault → ℕ
number (Board r) = refusal_number r
number (Cell f) = counters.number f.fault

-- the values of a fault: the board's own, or the level, row, column and stamp of the cell that refuses
abbrev pub values : Fault → List ℕ
values (Board r) = refusal_values r
values (Cell f) = f.level ∷ f.row ∷ f.column ∷ f.stamp ∷ []
