use Rattle.histogram.proofs.Trimming.{Dropped}
use Rattle.histogram.proofs.levels.drop_dead.Given as goal

abbrev pub invariant-loop-level : goal.invariant-loop-level
invariant-loop-level l = Dropped l.t l.v l.initial.levels l.levels l.level-index
