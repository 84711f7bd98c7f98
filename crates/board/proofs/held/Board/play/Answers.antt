use Rattle.std.proofs.Common.{◌≡◌, true, length, refl, ap, subst, arith}
use Rattle.std.proofs.lemmas.Result.{err_from_is_err_and}
use Rattle.sketch.specs.Layout.{shape_of}
use Rattle.sketch.specs.Telling.{NamesFirst, ToldFrom}
use Rattle.daybook.specs.Book.{play}
use Rattle.daybook.specs.Runs.{Plays}
use Rattle.daybook.proofs.Stepping.{step_lawful}
use Rattle.board.specs.Serials.{serials_of}
use Rattle.board.specs.Held.{state_of}
use Rattle.board.specs.Causes.{play_causes}
use Rattle.board.specs.Outcomes.{PlayAnswer, PlayOutcome}
use Rattle.board.proofs.Turning.{by_board, by_cell, play_in_time}
use Rattle.board.proofs.Lawfully.{play_lawful}
use Rattle.board.proofs.held.Board.play.Goals as goal

pub returns-in_err-key : goal.returns-in_err-key
returns-in_err-key g c =
    let m = g.C.Counter.model in
    let self = c.args.self.now in
    let cells = c.args.cells.now in
    let records = c.args.register.now in
    let bytes = c.args.serial.now in
    let t = c.args.t in
    let r = c.from_residual.result in
    let p = err_from_is_err_and r c.from_residual.ensures.1 in
    let played : PlayOutcome m self self cells cells records bytes t r =
    by_board (play_causes self (length cells) records bytes t) ((self ≡ self) × (cells ≡ cells)) (PlayAnswer m self self cells cells records bytes t) r p.0 c.in_err-key.field-0.0 p.1 p.2 c.in_err-key.ensures.known (refl, refl) in
    record { played = played; lawful = play_lawful m g.met.C.Counter.keeps self self cells cells records bytes t r played }

pub returns-in_err-tell : goal.returns-in_err-tell
returns-in_err-tell g c =
    let m = g.C.Counter.model in
    let self = c.args.self.now in
    let cells = c.args.cells.now in
    let records = c.args.register.now in
    let bytes = c.args.serial.now in
    let t = c.args.t in
    let r = c.from_residual-in_err-tell.result in
    let known = c.in_ok-key.ensures.known in
    let told = c.in_err-tell.ensures.tells in
    let p = err_from_is_err_and r c.from_residual-in_err-tell.ensures.1 in
    let first = subst (λ k. NamesFirst m (shape_of self.sketch) k t 0 cells c.in_err-tell.field-0.0) known.1.0 told.1 in
    let played : PlayOutcome m self self cells c.tell.new.cells records bytes t r =
    by_cell (play_causes self (length cells) records bytes t) ((self ≡ self) × (c.tell.new.cells ≡ cells)) (PlayAnswer m self self cells c.tell.new.cells records bytes t) r p.0 c.in_err-tell.field-0.0 p.1 p.2 known.0 (refl, told.0, first) in
    record { played = played; lawful = play_lawful m g.met.C.Counter.keeps self self cells c.tell.new.cells records bytes t r played }

pub returns : goal.returns
returns g c =
    let m = g.C.Counter.model in
    let self = c.args.self.now in
    let cells = c.args.cells.now in
    let records = c.args.register.now in
    let bytes = c.args.serial.now in
    let t = c.args.t in
    let known = c.in_ok-key.ensures.known in
    let told = subst (λ k. ToldFrom m (shape_of self.sketch) k t 0 cells c.tell.new.cells) known.1.0 c.in_ok-tell.ensures.tells in
    let before = state_of self cells records in
    let noted = c.note_play.ensures in
    let after = state_of c.note_play.new.self c.tell.new.cells records in
    let step : Plays m before bytes t after = record {
      known = omega (arith, known.1.0, known.1.1);
      in_time = play_in_time self (length cells) records bytes t known.0;
      shape = ap shape_of noted.sketch;
      told = told;
      register = ap (λ n. serials_of n records) noted.enrolled;
      clock = noted.clock;
      accepted = noted.accepted;
    } in
    record {
      played = (known.0, record { answer = noted.number; step = step; opened = noted.opened; sketch = noted.sketch; enrolled = noted.enrolled });
      lawful = step_lawful m g.met.C.Counter.keeps before after (play bytes t) true step;
    }
