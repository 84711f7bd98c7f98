use Rattle.std.proofs.Common.{◌≡◌, ◌+◌, ◌-◌, ◌*◌, ◌<◌, false, sym, refl, ap, ◌∙◌, subst, arith}
use Rattle.std.proofs.lemmas.Bool.{or_from}
use Rattle.window.specs.Below.{any_below}
use Rattle.window.proofs.Bounded.{any_more}
use Rattle.sketch.specs.Layout.{shape_of, column}
use Rattle.sketch.proofs.RowSteps.{covering, covering_key, same_column, columns_same, columns_own, columns_apart, not_clear, is_clear, row_within, scanned_skipped, scanned_shared, scanned_raised}
use Rattle.sketch.proofs.Steps.{mixed_none, column_followed}
use Rattle.sketch.proofs.question.Question.low.Goals as goal
use Rattle.sketch.proofs.question.Question.low.Goals.{else-other-node-via-then-other-node+else-column-own, else-other-node-via-else-other-node}

pub rows-preserved-then-least-low : goal.rows-preserved-then-least-low
rows-preserved-then-least-low g c =
    let self = c.args.self.now in
    (c.rows.invariant.0, c.rows.invariant.1, scanned_skipped (shape_of self.sketch.now) self.enrolled c.args.level c.args.node c.args.lows.now c.rows.row-iterator.a.start c.next.new.self.a.start c.rows.row-iterator.a.end c.next.new.self.a.end c.in-Some.row c.rows.low c.in-Some.least.now c.rows.row-iterator.b.rest.now c.next.new.self.b.rest.now c.requires.rows c.rows.invariant.2 c.in-Some.ensures.steps c.if-least-low.true)

pub row-row-requires-clause-row : goal.row-row-requires-clause-row
row-row-requires-clause-row g c =
    let self = c.args.self.now in
    row_within (shape_of self.sketch.now) self.enrolled c.args.level c.args.node c.args.lows.now c.rows.row-iterator.a.start c.next.new.self.a.start c.rows.row-iterator.a.end c.next.new.self.a.end c.in-Some.row c.rows.low c.in-Some.least.now c.rows.row-iterator.b.rest.now c.next.new.self.b.rest.now c.requires.rows c.rows.invariant.2 c.in-Some.ensures.steps

pub loop-other-init : goal.loop-other-init
unfolding any_below
loop-other-init g c =
    let s = c.args.self.now.sketch.now in
    (refl, sym (mixed_none s.words ((c.args.level * s.rows + c.in-Some.row) * s.bits) s.bits))

pub rows-preserved-then-column-own : goal.rows-preserved-then-column-own
rows-preserved-then-column-own g c =
    let self = c.args.self.now in
    let s = shape_of self.sketch.now in
    let j = c.loop-other.other in
    let covers : j < covering self.enrolled c.args.level = omega (arith, c.covering-other-end.ensures.many, c.loop-other-test.true) in
    let within = covering_key s.bits self.enrolled c.args.level j c.requires.level self.room covers in
    let running = rw (c.row-row.ensures.sketch, c.row-row.ensures.level, c.row-row.ensures.row) at c.runs-runs.ensures.running in
    let own = rw (c.row-row.ensures.sketch, c.row-row.ensures.level, c.row-row.ensures.row) at c.column-own.ensures.mixed in
    let later = rw c.deref.ensures.0 at c.column_after-column.ensures.later in
    let next = column_followed s c.args.level c.in-Some.row j c.loop-other.column c.column_after-column.result c.runs-runs.result.items self.sketch.now.bits_range within running c.loop-other.invariant.1 c.column_after-column.ensures.first later in
    let same = columns_same s c.args.level c.in-Some.row c.args.node j c.column-own.result c.column_after-column.result own next c.if-other-node.true c.if-column-own.true in (
      c.rows.invariant.0,
      c.rows.invariant.1,
      scanned_shared s self.enrolled c.args.level c.args.node c.args.lows.now c.rows.row-iterator.a.start c.next.new.self.a.start c.rows.row-iterator.a.end c.next.new.self.a.end c.in-Some.row c.rows.low c.in-Some.least.now c.rows.row-iterator.b.rest.now c.next.new.self.b.rest.now c.requires.rows c.rows.invariant.2 c.in-Some.ensures.steps
          (not_clear s self.enrolled c.args.level c.in-Some.row c.args.node j c.requires.level self.room covers same),
    )

pub loop-other-preserved : goal.loop-other-preserved
loop-other-preserved g c =
    let self = c.args.self.now in
    let s = shape_of self.sketch.now in
    let j = c.loop-other.other in
    let covers : j < covering self.enrolled c.args.level = omega (arith, c.covering-other-end.ensures.many, c.loop-other-test.true) in
    let within = covering_key s.bits self.enrolled c.args.level j c.requires.level self.room covers in
    let running = rw (c.row-row.ensures.sketch, c.row-row.ensures.level, c.row-row.ensures.row) at c.runs-runs.ensures.running in
    let own = rw (c.row-row.ensures.sketch, c.row-row.ensures.level, c.row-row.ensures.row) at c.column-own.ensures.mixed in
    let later = rw c.deref.ensures.0 at c.column_after-column.ensures.later in
    let next = column_followed s c.args.level c.in-Some.row j c.loop-other.column c.column_after-column.result c.runs-runs.result.items self.sketch.now.bits_range within running c.loop-other.invariant.1 c.column_after-column.ensures.first later in
    let apart : same_column s c.args.level c.in-Some.row c.args.node j ≡ false =
    elim c.else-other-node.branch [
      | else-other-node-via-then-other-node+else-column-own w ↦ columns_apart s c.args.level c.in-Some.row c.args.node j c.column-own.result c.column_after-column.result own next w.if-column-own.false
      | else-other-node-via-else-other-node w ↦ columns_own s c.args.level c.in-Some.row c.args.node j w.if-other-node.false
    ] in
    let here : j ≡ j + 1 - 1 = omega arith in
    (any_more (same_column s c.args.level c.in-Some.row c.args.node) j ∙ or_from _ _ apart c.loop-other.invariant.0, next ∙ ap (column s c.args.level c.in-Some.row) here)

pub rows-preserved : goal.rows-preserved
rows-preserved g c =
    let self = c.args.self.now in
    let s = shape_of self.sketch.now in
    let all : c.loop-other.other ≡ covering self.enrolled c.args.level = omega (arith, c.covering-other-end.ensures.many, c.loop-other-test.false) in
    let none = subst (λ n. any_below (same_column s c.args.level c.in-Some.row c.args.node) n ≡ false) all c.loop-other.invariant.0 in (
      c.rows.invariant.0,
      c.rows.invariant.1,
      scanned_raised s self.enrolled c.args.level c.args.node c.args.lows.now c.rows.row-iterator.a.start c.next.new.self.a.start c.rows.row-iterator.a.end c.next.new.self.a.end c.in-Some.row c.rows.low c.in-Some.least.now c.rows.row-iterator.b.rest.now c.next.new.self.b.rest.now c.requires.rows c.rows.invariant.2 c.in-Some.ensures.steps
          (is_clear s self.enrolled c.args.level c.in-Some.row c.args.node none) c.if-least-low.false,
    )
