use Rattle.std.proofs.Common.{refl, ◌≡◌, ◌+◌, ◌/◌, Ok, sym, ◌∙◌, subst, arith}
use Rattle.sketch.specs.Layout.{shape_of}
use Rattle.sketch.proofs.Cells.{sound_of, some_cells}
use Rattle.sketch.proofs.Lawfulness.{range_lawful}
use Rattle.sketch.proofs.RangeSteps.{Ending, ending_none, ending_more, ending_all, ranged_all}
use Rattle.sketch.proofs.question.Question.range.Goals as goal

pub loop-node-init : goal.loop-node-init
loop-node-init g c =
    let self = c.args.self.now in
    let s = shape_of self.sketch.now in
    let m = g.C.Counter.model in
    let w = c.loop-level in
    let ends = c.into_iter-node-iterator.ensures.into_iter_gives.0 ∙ c.odd_ends.ensures.ends in
    (tt, tt, subst (Ending m s self.cells.now self.enrolled self.t self.v c.args.first c.args.last w.level w.lo w.hi w.low w.high) (sym ends) (ending_none m s self.cells.now self.enrolled self.t self.v c.args.first c.args.last w.level w.lo w.hi w.low w.high (omega arith) w.invariant))

pub loop-node-preserved : goal.loop-node-preserved
loop-node-preserved g c =
    let self = c.args.self.now in
    let s = shape_of self.sketch.now in
    let m = g.C.Counter.model in
    let w = c.loop-node in
    let more : Ending m s self.cells.now self.enrolled self.t self.v c.args.first c.args.last c.loop-level.level c.loop-level.lo c.loop-level.hi (w.low + c.in_ok-least.least) (w.high + c.in_ok-least.most) c.next.new.self.rest.now =
    ending_more m s self.cells.now self.enrolled self.t self.v c.args.first c.args.last c.loop-level.level c.loop-level.lo c.loop-level.hi w.low w.high
    c.in-Some.node.now c.in_ok-least.least c.in_ok-least.most w.node-iterator.rest.now c.next.new.self.rest.now (omega arith) (omega arith) c.in-Some.ensures.steps c.in_ok-least.ensures.answered w.invariant.2 in
    (w.invariant.0, w.invariant.1, rw (c.from-low.ensures, c.from-high.ensures) more)

pub loop-level-preserved : goal.loop-level-preserved
loop-level-preserved g c =
    let self = c.args.self.now in
    let w = c.loop-level in
    ending_all g.C.Counter.model (shape_of self.sketch.now) self.cells.now self.enrolled self.t self.v c.args.first c.args.last w.level w.lo w.hi c.loop-node.low c.loop-node.high _ _ c.loop-node.node-iterator.rest.now (omega arith) (omega arith) c.in-None.ensures.steps.0 c.loop-node.invariant.2

pub returns-in-None : goal.returns-in-None
returns-in-None g c =
    let self = c.args.self.now in
    let s = shape_of self.sketch.now in
    let m = g.C.Counter.model in
    let w = c.loop-level in
    let all : w.level + 1 ≡ s.bits + 1 = omega arith in
    let answered = ranged_all m s self.cells.now self.enrolled self.t self.v c.args.first c.args.last (w.level + 1) ((w.lo + 1) / 2) (w.hi / 2) c.loop-node.low c.loop-node.high all
    (ending_all m s self.cells.now self.enrolled self.t self.v c.args.first c.args.last w.level w.lo w.hi c.loop-node.low c.loop-node.high ((w.lo + 1) / 2) (w.hi / 2) c.loop-node.node-iterator.rest.now refl refl c.in-None.ensures.steps.0 c.loop-node.invariant.2) in
    record { answered = answered; lawful = range_lawful m g.met.C.Counter.keeps s (sound_of self.sketch.now) self.cells.now (omega (arith, self.sized, some_cells s (sound_of self.sketch.now))) self.enrolled self.t self.v c.args.first c.args.last (Ok (c.loop-node.low, c.loop-node.high)) answered }
