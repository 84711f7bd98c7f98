use Rattle.std.proofs.Common.{◌≡◌, true, length, set, refl, ap, ◌∙◌, ap₂, arith}
use Rattle.std.proofs.lemmas.Result.{err_from_is_err_and}
use Rattle.sketch.specs.Layout.{shape_of}
use Rattle.daybook.specs.Book.{enrol}
use Rattle.daybook.specs.Runs.{Enrols}
use Rattle.daybook.proofs.Stepping.{step_lawful}
use Rattle.board.specs.Held.{state_of}
use Rattle.board.specs.Causes.{enrol_causes}
use Rattle.board.specs.Outcomes.{EnrolAnswer, EnrolOutcome}
use Rattle.board.proofs.Turning.{by_board}
use Rattle.board.proofs.Lawfully.{enrol_lawful}
use Rattle.board.specs.Serials.{serials_of}
use Rattle.board.proofs.Registers.{serials_number}
use Rattle.board.proofs.Enrolling.{key_left, serials_more}
use Rattle.board.proofs.held.Board.enrol.Goals as goal

pub returns : goal.returns
returns g c =
    let self = c.args.self.now in
    let records = c.args.register.now in
    let bytes = c.args.serial.now in
    let fresh = c.in_ok-record.ensures.fresh in
    let left = key_left self (length c.args.cells.now) records bytes fresh.0 in
    let many = serials_number self.enrolled records (omega (arith, left.0, left.1)) in
    let put = c.put_next.ensures in
    let register = put.put ∙ ap (set records self.enrolled) fresh.1 in
    let before = state_of self c.args.cells.now records in
    let after = state_of c.put_next.new.self c.args.cells.now c.put_next.new.register in
    let step : Enrols before bytes after = record {
      room = omega (arith, many, left.0);
      shape = ap shape_of put.sketch;
      cells = refl;
      register = ap₂ serials_of put.more register ∙ serials_more self.enrolled records bytes (omega (arith, left.0, left.1));
      clock = put.clock;
      accepted = put.accepted;
    } in
    record {
      enrolled = (fresh.0, record { answer = put.key; step = step; register = register; opened = put.opened; sketch = put.sketch });
      lawful = step_lawful g.C.Counter.model g.met.C.Counter.keeps before after (enrol bytes) true step;
    }

pub returns-in_err-record : goal.returns-in_err-record
returns-in_err-record g c =
    let self = c.args.self.now in
    let cells = c.args.cells.now in
    let records = c.args.register.now in
    let bytes = c.args.serial.now in
    let r = c.from_residual.result in
    let p = err_from_is_err_and r c.from_residual.ensures.1 in
    let enrolled : EnrolOutcome self self cells records records bytes r =
    by_board (enrol_causes self (length cells) records bytes) ((self ≡ self) × (records ≡ records)) (EnrolAnswer self self cells records records bytes) r p.0 c.in_err-record.field-0.0 p.1 p.2 c.in_err-record.ensures.fresh (refl, refl) in
    record { enrolled = enrolled; lawful = enrol_lawful g.C.Counter.model g.met.C.Counter.keeps self self cells records records bytes r enrolled }
