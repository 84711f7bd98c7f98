use Rattle.std.proofs.Common.{refl}
use Rattle.std.specs.Fmt.{digits}
use Rattle.reply.proofs.worked.worked_cases_stand.Goals as goal

pub returns : goal.returns
unfolding digits
returns c = record { stand = record { cells_line = refl; key_line = refl; taken_line = refl; count_line = refl; none_listed = refl; two_listed = refl; before_clock = refl; early_cell = refl; full_cell = refl; no_room = refl; no_form = refl } }
