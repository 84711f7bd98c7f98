use Rattle.histogram.specs.Passing.{Pass}
use Rattle.histogram.proofs.Histogram.read.Given as goal

abbrev pub invariant-loop-level : goal.invariant-loop-level
invariant-loop-level l = Pass l.self.fineness l.self.last l.t l.v l.self.levels l.level-index l.tally l.size l.before
