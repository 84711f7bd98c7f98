use Rattle.std.proofs.Common.{sym, subst, arith}
use Rattle.std.proofs.lemmas.Fmt.{decimal_digit}
use Rattle.reply.specs.Steps.{Writes}
use Rattle.reply.proofs.pieces.Pen.put_number.Goals as goal

pub returns-then-number-lt10-clause-put : goal.returns-then-number-lt10-clause-put
returns-then-number-lt10-clause-put c = subst (λ l. Writes c.args.self.now l c.put.new.self) (sym (decimal_digit c.args.number (omega (arith, c.if-number-lt10.true)))) c.put.ensures.put
