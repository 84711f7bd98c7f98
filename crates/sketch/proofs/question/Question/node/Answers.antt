use Rattle.std.proofs.Common.{Ok, Err, sym, ap, ◌∙◌, subst, arith}
use Rattle.std.proofs.lemmas.Result.{err_from_is_err_and}
use Rattle.sketch.specs.Layout.{shape_of}
use Rattle.sketch.specs.Answers.{NodeAnswer}
use Rattle.sketch.proofs.Cells.{sound_of, some_cells}
use Rattle.sketch.proofs.Lawfulness.{node_lawful}
use Rattle.sketch.proofs.RowSteps.{node_from_rows}
use Rattle.sketch.proofs.question.Question.node.Goals as goal

pub returns-in_err-lows-clause-lawful : goal.returns-in_err-lows-clause-lawful
returns-in_err-lows-clause-lawful g c =
    let self = c.args.self.now in
    let sound = sound_of self.sketch.now in
    let s = shape_of self.sketch.now in
    let m = g.C.Counter.model in
    let p = err_from_is_err_and c.from_residual.result c.from_residual.ensures.1 in
    let answered = subst (NodeAnswer m s self.cells.now self.enrolled self.t self.v c.args.level c.args.node) (sym (p.1 ∙ ap Err p.2)) c.in_err-lows.ensures.answered in
    node_lawful m g.met.C.Counter.keeps s sound self.cells.now (omega (arith, self.sized, some_cells s sound)) self.enrolled self.t self.v c.args.level c.args.node c.requires.level c.from_residual.result answered

pub returns : goal.returns
returns g c =
    let self = c.args.self.now in
    let sound = sound_of self.sketch.now in
    let s = shape_of self.sketch.now in
    let m = g.C.Counter.model in
    let largest = rw c.deref.ensures.0 at c.low.ensures.largest in
    let answered = node_from_rows m s self.cells.now self.t self.v c.args.level c.args.node self.enrolled c.low.result c.in_ok-lows.lows c.in_ok-lows.high largest c.in_ok-lows.ensures.answered in
    record { answered = answered; lawful = node_lawful m g.met.C.Counter.keeps s sound self.cells.now (omega (arith, self.sized, some_cells s sound)) self.enrolled self.t self.v c.args.level c.args.node c.requires.level (Ok (c.low.result, c.in_ok-lows.high)) answered }
