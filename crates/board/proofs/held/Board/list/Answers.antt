use Rattle.std.proofs.Common.{true, is_ok, Ok, Err, subst}
use Rattle.std.proofs.lemmas.Result.{err_from_is_err_and}
use Rattle.board.specs.declared.faults.Fault.TheVariants.{Board, Cell}
use Rattle.board.specs.Held.{state_of}
use Rattle.listing.specs.Answers.{ListAnswer}
use Rattle.board.proofs.Asked.{asked}
use Rattle.board.specs.Lists.{HandedOver}
use Rattle.board.proofs.Lawfully.{list_lawful}
use Rattle.board.proofs.ListSteps.{refused_before, refused_by_cell, refused_room, written, by_fault}
use Rattle.board.proofs.held.Board.list.Goals as goal

pub returns-in_err-may_list : goal.returns-in_err-may_list
returns-in_err-may_list g c =
    let m = g.C.Counter.model in
    let a = c.args in
    let r = c.from_residual.result in
    let p = err_from_is_err_and r c.from_residual.ensures.1 in
    let f = c.in_err-may_list.field-0.0 in
    record {
      listed = by_fault m a.self.now a.cells.now a.register.now a.places.now a.places.now a.least a.t a.v r p.0 (Board f) p.1 p.2 (refused_before m a.self.now a.cells.now a.register.now a.places.now a.least a.t a.v f c.in_err-may_list.ensures.tested);
      lawful = list_lawful m g.met.C.Counter.keeps (state_of a.self.now a.cells.now a.register.now) a.least a.t a.v (is_ok r);
    }

pub returns-in_err-list : goal.returns-in_err-list
returns-in_err-list g c =
    let m = g.C.Counter.model in
    let a = c.args in
    let r = c.from_residual-in_err-list.result in
    let p = err_from_is_err_and r c.from_residual-in_err-list.ensures.1 in
    let f = c.in_err-list.field-0.0 in
    record {
      listed = by_fault m a.self.now a.cells.now a.register.now a.places.now a.places.now a.least a.t a.v r p.0 (Cell f) p.1 p.2 (refused_by_cell m a.self.now a.cells.now a.register.now a.places.now a.least a.t a.v c.in_ok-may_list.ensures.tested f (asked (λ s cs n t v. ListAnswer m s cs n t v a.least (Err f)) c.question.ensures.sketch c.question.ensures.cells c.question.ensures.enrolled c.question.ensures.t c.question.ensures.v c.in_err-list.ensures.answered));
      lawful = list_lawful m g.met.C.Counter.keeps (state_of a.self.now a.cells.now a.register.now) a.least a.t a.v (is_ok r);
    }

pub returns-in_err-hand_over : goal.returns-in_err-hand_over
returns-in_err-hand_over g c =
    let m = g.C.Counter.model in
    let a = c.args in
    let r = c.from_residual-in_err-hand_over.result in
    let p = err_from_is_err_and r c.from_residual-in_err-hand_over.ensures.1 in
    let f = c.in_err-hand_over.field-0.0 in
    record {
      listed = by_fault m a.self.now a.cells.now a.register.now a.places.now c.hand_over.new.places a.least a.t a.v r p.0 (Board f) p.1 p.2
          (refused_room m a.self.now a.cells.now a.register.now a.places.now a.least a.t a.v c.in_ok-may_list.ensures.tested c.list.new.found (asked (λ s cs n t v. ListAnswer m s cs n t v a.least (Ok c.list.new.found)) c.question.ensures.sketch c.question.ensures.cells c.question.ensures.enrolled c.question.ensures.t c.question.ensures.v c.in_ok-list.ensures.answered) c.hand_over.new.places f (subst (λ l. HandedOver l a.places.now c.hand_over.new.places (Err f)) c.as_slice.ensures.value c.in_err-hand_over.ensures.handed));
      lawful = list_lawful m g.met.C.Counter.keeps (state_of a.self.now a.cells.now a.register.now) a.least a.t a.v (is_ok r);
    }

pub returns : goal.returns
returns g c =
    let m = g.C.Counter.model in
    let a = c.args in
    record {
      listed = written m a.self.now a.cells.now a.register.now a.places.now a.least a.t a.v c.in_ok-may_list.ensures.tested c.list.new.found (asked (λ s cs n t v. ListAnswer m s cs n t v a.least (Ok c.list.new.found)) c.question.ensures.sketch c.question.ensures.cells c.question.ensures.enrolled c.question.ensures.t c.question.ensures.v c.in_ok-list.ensures.answered) c.hand_over.new.places c.in_ok-hand_over.field-0 (subst (λ l. HandedOver l a.places.now c.hand_over.new.places (Ok c.in_ok-hand_over.field-0)) c.as_slice.ensures.value c.in_ok-hand_over.ensures.handed);
      lawful = list_lawful m g.met.C.Counter.keeps (state_of a.self.now a.cells.now a.register.now) a.least a.t a.v true;
    }
