use Rattle.std.proofs.Common.{arith}
use Rattle.logline.proofs.Walking.{line_found}
use Rattle.logline.proofs.fields.fields_of.Goals as goal

pub returns : goal.returns
returns c = record { found = line_found c.args.line.now _ c.first_piece.result.1 c.in-Some.word c.first_piece.ensures.whole c.first_piece.ensures.pieces c.in-Some.ensures.found (omega arith) c.in_ok-take_fields.field-0 c.in_ok-take_fields.ensures.taken }
