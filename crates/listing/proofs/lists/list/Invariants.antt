use Rattle.std.proofs.Common.{◌-◌}
use Rattle.sketch.specs.Layout.{shape_of}
use Rattle.listing.proofs.Drafts.{Drafted}
use Rattle.listing.proofs.lists.list.Given as goal

abbrev pub invariant-loop-key : goal.invariant-loop-key
invariant-loop-key g l = Drafted g.C.Counter.model (shape_of l.question.sketch.now) l.question.cells.now l.question.enrolled l.question.t l.question.v l.g l.key l.found.items

abbrev pub decreases-loop-key : goal.decreases-loop-key
decreases-loop-key g l = l.question.enrolled - l.key
