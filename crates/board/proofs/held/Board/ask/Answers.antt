use Rattle.std.proofs.Common.{true, length, is_ok, Ok, Err, subst, arith}
use Rattle.std.proofs.lemmas.Result.{err_from_is_err_and}
use Rattle.sketch.specs.Layout.{shape_of}
use Rattle.sketch.specs.Answers.{RangeAnswer}
use Rattle.daybook.specs.Book.{key_in}
use Rattle.board.specs.Serials.{serials_of}
use Rattle.board.specs.Causes.{ask_causes}
use Rattle.board.specs.Held.{state_of}
use Rattle.board.specs.Outcomes.{Estimated}
use Rattle.board.proofs.Turning.{by_board, by_cell, ask_sized}
use Rattle.board.proofs.Asked.{asked}
use Rattle.board.proofs.Registers.{serials_number}
use Rattle.board.proofs.Lawfully.{ask_lawful, estimated}
use Rattle.board.proofs.held.Board.ask.Goals as goal

pub returns-in_err-key : goal.returns-in_err-key
returns-in_err-key g c =
    let m = g.C.Counter.model in
    let self = c.args.self.now in
    let cells = c.args.cells.now in
    let records = c.args.register.now in
    let bytes = c.args.serial.now in
    let key = key_in (serials_of self.enrolled records) bytes in
    let σ = state_of self cells records in
    let causes = ask_causes self (length cells) records bytes c.args.t c.args.v in
    let r = c.from_residual.result in
    let p = err_from_is_err_and r c.from_residual.ensures.1 in
    record {
      answered = by_board causes (Unit {0}) (RangeAnswer m (shape_of self.sketch) cells self.enrolled c.args.t c.args.v key key) r p.0 c.in_err-key.field-0.0 p.1 p.2 c.in_err-key.ensures.known tt;
      estimated = by_board causes (Unit {0}) (Estimated m σ c.args.t c.args.v key key) r p.0 c.in_err-key.field-0.0 p.1 p.2 c.in_err-key.ensures.known tt;
      lawful = ask_lawful m g.met.C.Counter.keeps σ bytes c.args.t c.args.v (is_ok r);
    }

pub returns-in_err-range : goal.returns-in_err-range
returns-in_err-range g c =
    let m = g.C.Counter.model in
    let self = c.args.self.now in
    let cells = c.args.cells.now in
    let records = c.args.register.now in
    let bytes = c.args.serial.now in
    let key = key_in (serials_of self.enrolled records) bytes in
    let σ = state_of self cells records in
    let causes = ask_causes self (length cells) records bytes c.args.t c.args.v in
    let r = c.from_residual-in_err-range.result in
    let f = c.in_err-range.field-0.0 in
    let known = c.in_ok-key.ensures.known in
    let sized = ask_sized self (length cells) records bytes c.args.t c.args.v known.0 in
    let many = serials_number self.enrolled records (omega (arith, self.room, sized.1)) in
    let p = err_from_is_err_and r c.from_residual-in_err-range.ensures.1 in
    let q = c.question.ensures in
    let of_key : RangeAnswer m (shape_of self.sketch) cells self.enrolled c.args.t c.args.v c.in_ok-key.key c.in_ok-key.key (Err f) =
    asked (λ s cs n t v. RangeAnswer m s cs n t v c.in_ok-key.key c.in_ok-key.key (Err f)) q.sketch q.cells q.enrolled q.t q.v c.in_err-range.ensures.answered in
    let answered = subst (λ k. RangeAnswer m (shape_of self.sketch) cells self.enrolled c.args.t c.args.v k k (Err f)) known.1.0 of_key in
    record {
      answered = by_cell causes (Unit {0}) (RangeAnswer m (shape_of self.sketch) cells self.enrolled c.args.t c.args.v key key) r p.0 f p.1 p.2 known.0 answered;
      estimated = by_cell causes (Unit {0}) (Estimated m σ c.args.t c.args.v key key) r p.0 f p.1 p.2 known.0
          (estimated m σ self.enrolled c.args.t c.args.v key key many (Err f) answered);
      lawful = ask_lawful m g.met.C.Counter.keeps σ bytes c.args.t c.args.v (is_ok r);
    }

pub returns : goal.returns
returns g c =
    let m = g.C.Counter.model in
    let self = c.args.self.now in
    let cells = c.args.cells.now in
    let records = c.args.register.now in
    let bytes = c.args.serial.now in
    let key = key_in (serials_of self.enrolled records) bytes in
    let σ = state_of self cells records in
    let pair = c.in_ok-range.field-0 in
    let known = c.in_ok-key.ensures.known in
    let sized = ask_sized self (length cells) records bytes c.args.t c.args.v known.0 in
    let many = serials_number self.enrolled records (omega (arith, self.room, sized.1)) in
    let q = c.question.ensures in
    let of_key : RangeAnswer m (shape_of self.sketch) cells self.enrolled c.args.t c.args.v c.in_ok-key.key c.in_ok-key.key (Ok pair) =
    asked (λ s cs n t v. RangeAnswer m s cs n t v c.in_ok-key.key c.in_ok-key.key (Ok pair)) q.sketch q.cells q.enrolled q.t q.v c.in_ok-range.ensures.answered in
    let answered = subst (λ k. RangeAnswer m (shape_of self.sketch) cells self.enrolled c.args.t c.args.v k k (Ok pair)) known.1.0 of_key in
    record {
      answered = (known.0, answered);
      estimated = (known.0, estimated m σ self.enrolled c.args.t c.args.v key key many (Ok pair) answered);
      lawful = ask_lawful m g.met.C.Counter.keeps σ bytes c.args.t c.args.v true;
    }
