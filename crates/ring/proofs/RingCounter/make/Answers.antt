use Rattle.std.proofs.Common.{rules}
use Rattle.ring.specs.Standing.{fresh}
use Rattle.ring.proofs.RingCounter.make.Goals as goal

pub returns-clause-fresh : goal.returns-clause-fresh
returns-clause-fresh c = fresh c.args.window c.args.fineness _ (search rules)
