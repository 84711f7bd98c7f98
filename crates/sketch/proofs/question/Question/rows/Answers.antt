use Rattle.std.proofs.Common.{arith}
use Rattle.sketch.specs.Layout.{shape_of}
use Rattle.sketch.proofs.RowSteps.{rows_more, rows_all}
use Rattle.sketch.proofs.question.Question.rows.Goals as goal

pub loop-row-preserved : goal.loop-row-preserved
loop-row-preserved g c =
    let self = c.args.self.now in
    let counted = rw (c.row-row.ensures.sketch, c.row-row.ensures.level, c.row-row.ensures.row) at c.in_ok-least.ensures.counted in
    rows_more g.C.Counter.model (shape_of self.sketch.now) self.cells.now self.t self.v c.args.level c.args.node c.loop-row.row c.loop-row.lows.items c.loop-row.high c.in_ok-least.least c.in_ok-least.most c.loop-row.invariant (omega arith) counted _ _ c.push.ensures.items (omega arith)

pub returns : goal.returns
returns g c =
    let self = c.args.self.now in
    record { answered = rows_all g.C.Counter.model (shape_of self.sketch.now) self.cells.now self.t self.v c.args.level c.args.node c.loop-row.row c.loop-row.lows c.loop-row.high self.sketch.now.some_row (omega arith) c.loop-row.invariant }
