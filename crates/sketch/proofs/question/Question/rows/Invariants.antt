use Rattle.sketch.specs.Layout.{shape_of}
use Rattle.sketch.proofs.RowSteps.{Rows}
use Rattle.sketch.proofs.question.Question.rows.Given as goal

abbrev pub invariant-loop-row : goal.invariant-loop-row
invariant-loop-row g l = Rows g.C.Counter.model (shape_of l.self.sketch.now) l.self.cells.now l.self.t l.self.v l.level l.node l.row l.lows.items l.high
