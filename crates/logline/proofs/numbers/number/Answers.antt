use Rattle.std.proofs.Common.{sym, subst, rules}
use Rattle.logline.specs.Steps.{NumberOf}
use Rattle.logline.proofs.Decimal.{no_number_on, no_number_empty, no_number_zero, number_read}
use Rattle.logline.proofs.numbers.number.Goals as goal

pub returns-in_err-number : goal.returns-in_err-number
returns-in_err-number c = record {
  found = subst (NumberOf c.args.text.now) (sym c.from_residual.ensures) (no_number_on c.args.text.now _ _ c.loop-byte.invariant.0 c.loop-byte-test.true c.in_err-number.ensures.told);
}

pub returns-then-is_empty : goal.returns-then-is_empty
returns-then-is_empty c = record { found = no_number_empty c.args.text.now (search rules) }

pub returns-then-has_leading_zero : goal.returns-then-has_leading_zero
returns-then-has_leading_zero c =
    let zero = c.has_leading_zero.ensures.decided.0 c.if-has_leading_zero.true in
    record { found = no_number_zero c.args.text.now zero.1 zero.0 }

pub returns : goal.returns
returns c = record { found = (number_read c.args.text.now _ _ c.loop-byte.invariant.0 c.loop-byte-test.false (search rules) (λ z long. search rules) c.loop-byte.invariant.1, c.loop-byte.invariant.1) }
