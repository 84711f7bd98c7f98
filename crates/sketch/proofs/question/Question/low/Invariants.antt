use Rattle.std.proofs.Common.{◌≡◌, ◌-◌, false}
use Rattle.window.specs.Below.{any_below}
use Rattle.sketch.specs.Layout.{shape_of, column}
use Rattle.sketch.proofs.RowSteps.{same_column, Scanned}
use Rattle.sketch.proofs.question.Question.low.Given as goal

abbrev pub invariant-loop-other : goal.invariant-loop-other
invariant-loop-other g l =
    (any_below (same_column (shape_of l.self.sketch.now) l.level l.row l.node) l.other ≡ false)
    × (l.column ≡ column (shape_of l.self.sketch.now) l.level l.row (l.other - 1))

abbrev pub invariant-rows : goal.invariant-rows
invariant-rows g l =
    (goal.iterator-rows g).can_next l.row-iterator
    × (goal.iterator-rows g).is_finite l.row-iterator
    × Scanned (shape_of l.self.sketch.now) l.self.enrolled l.level l.node l.lows l.row-iterator.a.start l.row-iterator.a.end l.row-iterator.b.rest.now l.low
