use Rattle.std.proofs.Common.{true, length, is_ok, Ok, Err, arith}
use Rattle.std.proofs.lemmas.Result.{err_from_is_err_and}
use Rattle.sketch.specs.Layout.{shape_of}
use Rattle.sketch.specs.Answers.{RangeAnswer}
use Rattle.board.specs.Causes.{range_causes}
use Rattle.board.specs.Held.{state_of}
use Rattle.board.specs.Outcomes.{Estimated}
use Rattle.board.proofs.Turning.{by_board, by_cell, range_sized}
use Rattle.board.proofs.Asked.{asked}
use Rattle.board.proofs.Registers.{serials_number}
use Rattle.board.proofs.Lawfully.{range_lawful, estimated}
use Rattle.board.proofs.held.Board.range.Goals as goal

pub returns-in_err-may_range : goal.returns-in_err-may_range
returns-in_err-may_range g c =
    let m = g.C.Counter.model in
    let self = c.args.self.now in
    let cells = c.args.cells.now in
    let records = c.args.register.now in
    let σ = state_of self cells records in
    let causes = range_causes self (length cells) (length records) c.args.first c.args.last c.args.t c.args.v in
    let r = c.from_residual.result in
    let p = err_from_is_err_and r c.from_residual.ensures.1 in
    record {
      answered = by_board causes (Unit {0}) (RangeAnswer m (shape_of self.sketch) cells self.enrolled c.args.t c.args.v c.args.first c.args.last) r p.0 c.in_err-may_range.field-0.0 p.1 p.2 c.in_err-may_range.ensures.tested tt;
      estimated = by_board causes (Unit {0}) (Estimated m σ c.args.t c.args.v c.args.first c.args.last) r p.0 c.in_err-may_range.field-0.0 p.1 p.2 c.in_err-may_range.ensures.tested tt;
      lawful = range_lawful m g.met.C.Counter.keeps σ c.args.first c.args.last c.args.t c.args.v (is_ok r);
    }

pub returns-in_err-range : goal.returns-in_err-range
returns-in_err-range g c =
    let m = g.C.Counter.model in
    let self = c.args.self.now in
    let cells = c.args.cells.now in
    let records = c.args.register.now in
    let σ = state_of self cells records in
    let causes = range_causes self (length cells) (length records) c.args.first c.args.last c.args.t c.args.v in
    let r = c.from_residual-in_err-range.result in
    let f = c.in_err-range.field-0.0 in
    let admitted = c.in_ok-may_range.ensures.tested in
    let sized = range_sized self (length cells) (length records) c.args.first c.args.last c.args.t c.args.v admitted in
    let many = serials_number self.enrolled records (omega (arith, self.room, sized.1)) in
    let p = err_from_is_err_and r c.from_residual-in_err-range.ensures.1 in
    let q = c.question.ensures in
    let answered : RangeAnswer m (shape_of self.sketch) cells self.enrolled c.args.t c.args.v c.args.first c.args.last (Err f) =
    asked (λ s cs n t v. RangeAnswer m s cs n t v c.args.first c.args.last (Err f)) q.sketch q.cells q.enrolled q.t q.v c.in_err-range.ensures.answered in
    record {
      answered = by_cell causes (Unit {0}) (RangeAnswer m (shape_of self.sketch) cells self.enrolled c.args.t c.args.v c.args.first c.args.last) r p.0 f p.1 p.2 admitted answered;
      estimated = by_cell causes (Unit {0}) (Estimated m σ c.args.t c.args.v c.args.first c.args.last) r p.0 f p.1 p.2 admitted
          (estimated m σ self.enrolled c.args.t c.args.v c.args.first c.args.last many (Err f) answered);
      lawful = range_lawful m g.met.C.Counter.keeps σ c.args.first c.args.last c.args.t c.args.v (is_ok r);
    }

pub returns : goal.returns
returns g c =
    let m = g.C.Counter.model in
    let self = c.args.self.now in
    let cells = c.args.cells.now in
    let records = c.args.register.now in
    let σ = state_of self cells records in
    let pair = c.in_ok-range.field-0 in
    let admitted = c.in_ok-may_range.ensures.tested in
    let sized = range_sized self (length cells) (length records) c.args.first c.args.last c.args.t c.args.v admitted in
    let many = serials_number self.enrolled records (omega (arith, self.room, sized.1)) in
    let q = c.question.ensures in
    let answered : RangeAnswer m (shape_of self.sketch) cells self.enrolled c.args.t c.args.v c.args.first c.args.last (Ok pair) =
    asked (λ s cs n t v. RangeAnswer m s cs n t v c.args.first c.args.last (Ok pair)) q.sketch q.cells q.enrolled q.t q.v c.in_ok-range.ensures.answered in
    record {
      answered = (admitted, answered);
      estimated = (admitted, estimated m σ self.enrolled c.args.t c.args.v c.args.first c.args.last many (Ok pair) answered);
      lawful = range_lawful m g.met.C.Counter.keeps σ c.args.first c.args.last c.args.t c.args.v true;
    }
