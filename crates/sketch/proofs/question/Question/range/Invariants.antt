use Rattle.sketch.specs.Layout.{shape_of}
use Rattle.sketch.proofs.RangeSteps.{Ranged, Ending}
use Rattle.sketch.proofs.question.Question.range.Given as goal

abbrev pub invariant-loop-node : goal.invariant-loop-node
invariant-loop-node g l =
    (goal.iterator-loop-node g).can_next l.node-iterator
    × (goal.iterator-loop-node g).is_finite l.node-iterator
    × Ending g.C.Counter.model (shape_of l.self.sketch.now) l.self.cells.now l.self.enrolled l.self.t l.self.v l.first l.last l.level l.lo l.hi l.low l.high l.node-iterator.rest.now

abbrev pub invariant-loop-level : goal.invariant-loop-level
invariant-loop-level g l =
    Ranged g.C.Counter.model (shape_of l.self.sketch.now) l.self.cells.now l.self.enrolled l.self.t l.self.v l.first l.last l.level l.lo l.hi l.low l.high
