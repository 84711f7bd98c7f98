use Rattle.std.proofs.Common.{sym, subst, arith}
use Rattle.std.proofs.lemmas.Fmt.{decimal_digit}
use Rattle.logline.specs.Steps.{PutWhen}
use Rattle.logline.proofs.texts.put_number.Goals as goal

pub returns-then-number-lt10 : goal.returns-then-number-lt10
returns-then-number-lt10 c = record { put = subst (λ l. PutWhen (Unit {0}) c.args.line.now.items l c.put.new.line.items c.put.result) (sym (decimal_digit c.args.number (omega (arith, c.if-number-lt10.true)))) c.put.ensures.put }
