use Rattle.histogram.specs.Carrying.{Carried}
use Rattle.histogram.proofs.levels.carry_in.Given as goal

abbrev pub invariant-loop-level : goal.invariant-loop-level
invariant-loop-level l = Carried l.fineness l.t l.initial.levels l.levels l.level-index l.arriving
