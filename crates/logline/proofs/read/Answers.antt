use Rattle.logline.proofs.Deciding.{decided}
use Rattle.logline.proofs.read.Goals as goal

pub returns-in_err-word-clause-decided : goal.returns-in_err-word-clause-decided
returns-in_err-word-clause-decided c = decided c.args.line.now

pub returns-clause-decided : goal.returns-clause-decided
returns-clause-decided c = decided c.args.line.now
