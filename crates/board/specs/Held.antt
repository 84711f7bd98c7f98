-- The state that a board means, with the cells and the register that are lent to it.
use Rattle.std.specs.Prelude.{List}
use Rattle.sketch.specs.Layout.{shape_of}
use Rattle.daybook.specs.Boards.{State}
use Rattle.board.specs.declared.held.Board.{Board}
use Rattle.board.specs.declared.records.Record.{Record}
use Rattle.board.specs.Serials.{serials_of}

-- the first records of the register are the enrolled serials
abbrev pub state_of : {C : Type 0} → Board → List C → List Record → State C
state_of b cells records = record { shape = shape_of b.sketch; cells = cells; register = serials_of b.enrolled records; clock = b.clock; accepted = b.accepted }
