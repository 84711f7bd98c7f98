use Rattle.std.proofs.Common.{arith, rules}
use Rattle.histogram.specs.Laws.{makes}
use Rattle.histogram.proofs.HistogramCounter.make.Goals as goal

pub returns-clause-fresh : goal.returns-clause-fresh
returns-clause-fresh c = (makes c.args.window c.args.fineness _ (omega arith) (search rules)).0
