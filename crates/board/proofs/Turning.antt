-- Causes tested one after the other, and what a call that is turned away answers.
use Rattle.std.proofs.Common.{◌≡◌, ℕ, ◌<◌, ◌≤◌, List, length, Err, Result, sym, ap, ◌∙◌, subst, arith}
use Rattle.window.specs.Causes.{Admitted, Refused}
use Rattle.sketch.specs.declared.faults.CellFault.{CellFault}
use Rattle.board.specs.declared.faults.Refusal.{Refusal}
use Rattle.board.specs.declared.faults.Fault.{Fault}
use Rattle.board.specs.declared.faults.Fault.TheVariants.{Board, Cell}
use Rattle.std.proofs.lemmas.Bool.Decides.{nat_tests}
use Rattle.sketch.specs.Layout.{shape_of, keys, cell_number}
use Rattle.board.specs.declared.records.Record.{Record}
use Rattle.board.specs.declared.held.Board.{Board as OneBoard}
use Rattle.board.specs.Causes.{Cause, label, range_causes, ask_causes, play_causes}
use Rattle.board.specs.Outcomes.{Outcome}

-- a call that the board turns away
pub by_board : {A : Type 0} (causes : List Cause) (unchanged : Type 0) (P : Result A CellFault → Type 0) (r : Result A Fault) (y : Fault) (f : Refusal) → r ≡ Err y → y ≡ Board f → Refused causes (label f) → unchanged → Outcome causes unchanged P r
by_board causes unchanged P r y f e same h u = subst (Outcome causes unchanged P) (sym (e ∙ ap Err same)) (h, u)

-- a call that a cell turns away
pub by_cell : {A : Type 0} (causes : List Cause) (unchanged : Type 0) (P : Result A CellFault → Type 0) (r : Result A Fault) (y : Fault) (f : CellFault) → r ≡ Err y → y ≡ Cell f → Admitted causes → P (Err f) → Outcome causes unchanged P r
by_cell causes unchanged P r y f e same a h = subst (Outcome causes unchanged P) (sym (e ∙ ap Err same)) (a, h)

-- where a range is answered, board and keys are as they should be
pub range_sized : (b : OneBoard) (cells records first last t v : ℕ) → Admitted (range_causes b cells records first last t v) → (cells ≡ cell_number (shape_of b.sketch)) × (keys (shape_of b.sketch) ≤ records) × (first ≤ last) × (last < keys (shape_of b.sketch))
range_sized b cells records first last t v a = (grind (arith, nat_tests), grind (arith, nat_tests), grind (arith, nat_tests), grind (arith, nat_tests))

-- where a play is taken, the stamp is not before the clock
pub play_in_time : (b : OneBoard) (cells : ℕ) (records : List Record) (bytes : List ℕ) (t : ℕ) → Admitted (play_causes b cells records bytes t) → b.clock ≤ t
play_in_time b cells records bytes t a = grind (arith, nat_tests)

-- where a question about a cabinet is answered, board and register are as they should be
pub ask_sized : (b : OneBoard) (cells : ℕ) (records : List Record) (bytes : List ℕ) (t v : ℕ) → Admitted (ask_causes b cells records bytes t v) → (cells ≡ cell_number (shape_of b.sketch)) × (keys (shape_of b.sketch) ≤ length records)
ask_sized b cells records bytes t v a = (grind (arith, nat_tests), grind (arith, nat_tests))
