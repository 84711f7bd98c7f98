use Rattle.std.proofs.Common.{arith}
use Rattle.sketch.specs.Layout.{shape_of}
use Rattle.sketch.proofs.RowSteps.{node_from_rows}
use Rattle.sketch.proofs.question.Question.node_reaching.Goals as goal

pub returns : goal.returns
returns g c =
    let self = c.args.self.now in
    let largest = rw c.deref.ensures.0 at c.low.ensures.largest in
    record { answered = (omega arith, node_from_rows g.C.Counter.model (shape_of self.sketch.now) self.cells.now self.t self.v c.args.level c.args.node self.enrolled c.low.result c.in_ok-lows.lows c.in_ok-lows.high largest c.in_ok-lows.ensures.answered) }
