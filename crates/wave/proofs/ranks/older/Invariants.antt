use Rattle.wave.proofs.Walking.{Coming}
use Rattle.wave.proofs.ranks.older.Given as goal

abbrev pub invariant-loop-higher : goal.invariant-loop-higher
invariant-loop-higher l = Coming l.taken l.fineness l.rank l.next l.higher
