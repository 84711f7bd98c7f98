-- The refusals of a line: the number of each, and the values that it tells.
use Rattle.std.specs.Prelude.{ℕ, List, [], ◌∷◌}
use Rattle.board.specs.Faults as boards
use Rattle.logline.specs.Faults as lines
use Rattle.logline.specs.declared.faults.LineFault.TheVariants.{Room, Form}
use Rattle.reply.specs.declared.faults.DeskFault.{DeskFault}
use Rattle.reply.specs.declared.faults.DeskFault.TheVariants.{Board, Line}

-- the number of a fault: the board's, or the line's own
abbrev pub number : DeskFault → ℕ
number (Board f) = boards.number f
number (Line f) = lines.number_of f

-- the values of a fault: the board's, or how many places are needed, or the place in the line
abbrev pub values : DeskFault → List ℕ
values (Board f) = boards.values f
values (Line (Room needed)) = needed ∷ []
values (Line (Form place)) = place ∷ []
