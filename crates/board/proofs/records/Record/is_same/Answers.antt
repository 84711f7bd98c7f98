use Rattle.std.proofs.Common.{sym, ap, ◌∙◌, rules, tests}
use Rattle.board.proofs.Numbers.{same_number}
use Rattle.board.proofs.Registers.{same_record}
use Rattle.board.proofs.records.Record.is_same.Goals as goal

pub returns : goal.returns
returns c =
    let one = c.args.self in
    let other = c.args.other in
    record {
      same = same_record _ one other (
        (λ e. ap (λ s. record { serial = s }) (same_number one.serial other.serial (search rules) (search rules) (search rules) (search rules) (sym c.from_le_bytes.ensures ∙ search (rules, tests) ∙ c.from_le_bytes-2.ensures))),
        λ e. search (rules, tests),
      );
    }
