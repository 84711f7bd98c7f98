-- What a list promises.
use Rattle.std.specs.Prelude.{◌≡◌, ℕ, ◌<◌, ◌≤◌, List, [], ◌∷◌, ◌++◌, map, length, drop, Ok, Err, Result, nat_lt}
use Rattle.window.specs.Causes.{Admitted, Refused}
use Rattle.window.specs.Meaning.{Model}
use Rattle.listing.specs.declared.Listed.{Listed}
use Rattle.listing.specs.Answers.{Asked, Willing, ListAnswer}
use Rattle.daybook.specs.Boards.{State, low_of, high_of, listed}
use Rattle.board.specs.declared.held.Board.{Board as OneBoard}
use Rattle.board.specs.declared.records.Record.{Record}
use Rattle.board.specs.declared.faults.Refusal.{Refusal}
use Rattle.board.specs.declared.faults.Refusal.TheVariants.{NoRoom}
use Rattle.board.specs.declared.faults.Fault.{Fault}
use Rattle.board.specs.declared.faults.Fault.TheVariants.{Board, Cell}
use Rattle.board.specs.Causes.{Cause, label, list_causes}
use Rattle.board.specs.Held.{state_of}

-- of so many keys to write, with so many places for them
abbrev pub room_causes : (needed places : ℕ) → List Cause
room_causes needed places = ((15, needed ∷ []), nat_lt places needed) ∷ []

-- the entries that were found stand in the first places, and the places after them are as they were; or there are too few places, and all are as they were
abbrev pub HandedOver : (found places shown : List Listed) → Result ℕ Refusal → Type 0
HandedOver found places shown (Ok n) = (n ≡ length found) × (length found ≤ length places) × (shown ≡ found ++ drop (length found) places)
HandedOver found places shown (Err f) = (length places < length found) × (shown ≡ places) × (f ≡ NoRoom (length found))

module _ {C : Type 0} (m : Model C) (σ : State C) (d : C) (t v g : ℕ) where
  -- what a list has for key x: the key, with its low and high
  abbrev pub entry : ℕ → Listed
  entry x = record { key = x; low = low_of m σ d t v x x; high = high_of m σ d t v x x }

  -- how many keys the list for threshold g names
  abbrev pub needed : ℕ
  needed = length (listed m σ d t v g)

  -- no cell that the list asks refuses
  abbrev pub AllWilling : Type 0
  AllWilling = (k x : ℕ) → Asked m σ.shape σ.cells d (length σ.register) t v g k x → Willing m σ.shape σ.cells d t v x k

  -- the list was written: an entry for each key that it names, in order, and the places after them as they were
  pub record ListedAs (places shown : List Listed) (n : ℕ) : Type 0 where
    pub answer : n ≡ needed
    pub written : shown ≡ map entry (listed m σ d t v g) ++ drop n places
    pub room : Admitted (room_causes needed (length places))
    pub willing : AllWilling

-- a list: written; or refused by the first cause that applies, of which the want of places is tested after the cells; or by a cell that it asks. A refusal leaves the places as they were
abbrev pub ListOutcome : {C : Type 0} → Model C → OneBoard → List C → List Record → (places shown : List Listed) → (g t v : ℕ) → Result ℕ Fault → Type 0
ListOutcome {C} m b cells records places shown g t v (Ok n) =
    Admitted (list_causes b (length cells) (length records) g t v) × ((d : C) → ListedAs m (state_of b cells records) d t v g places shown n)
ListOutcome {C} m b cells records places shown g t v (Err (Board f)) =
    (shown ≡ places) × ((d : C) → Refused (list_causes b (length cells) (length records) g t v ++ room_causes (needed m (state_of b cells records) d t v g) (length places)) (label f))
    × ((d : C) → Admitted (list_causes b (length cells) (length records) g t v) → AllWilling m (state_of b cells records) d t v g)
ListOutcome m b cells records places shown g t v (Err (Cell f)) =
    (shown ≡ places) × Admitted (list_causes b (length cells) (length records) g t v) × ListAnswer m (state_of b cells records).shape cells (length (state_of b cells records).register) t v g (Err f)
