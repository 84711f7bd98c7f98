use Rattle.sketch.specs.Layout.{shape_of}
use Rattle.listing.proofs.Descent.{Descended}
use Rattle.listing.proofs.levels.highest_miss.Given as goal

abbrev pub invariant-loop-level : goal.invariant-loop-level
invariant-loop-level g l = Descended g.C.Counter.model (shape_of l.question.sketch.now) l.question.cells.now l.question.t l.question.v l.g l.key l.level
