use Rattle.std.proofs.Common.{arith, rules}
use Rattle.wave.proofs.Laws.{makes}
use Rattle.wave.proofs.counter.WaveCounter.make.Goals as goal

pub returns-clause-fresh : goal.returns-clause-fresh
returns-clause-fresh c = (makes c.args.window c.args.fineness _ (omega arith) (search rules)).0

pub returns-clause-sound : goal.returns-clause-sound
returns-clause-sound c = (makes c.args.window c.args.fineness _ (omega arith) (search rules)).1
