use Rattle.std.proofs.Common.{◌≡◌, arith}
use Rattle.sketch.specs.Layout.{shape_of}
use Rattle.sketch.specs.Telling.{order}
use Rattle.sketch.proofs.Cells.{sound_of}
use Rattle.sketch.proofs.TellLaws.{tells_faithful}
use Rattle.sketch.proofs.TellSteps.{next_row}
use Rattle.sketch.proofs.shape.Sketch.tell.Goals as goal

pub returns-clause-faithful : goal.returns-clause-faithful
returns-clause-faithful g c =
    let q = c.args.self.now in
    let s = shape_of q in
    let m = g.C.Counter.model in
    let row = c.row.result in
    let start : order s row.level row.row ≡ 0 = rw (c.row.ensures.level, c.row.ensures.row) (omega arith) in
    tells_faithful m s (sound_of q) c.args.key c.args.t c.args.cells.now c.tell_from.new.cells c.tell_from.result
    (next_row m q row.sketch.now c.args.key c.args.t row.level row.row 0 c.args.cells.now c.tell_from.new.cells c.tell_from.result c.row.ensures.sketch start c.tell_from.ensures.tells)
