use Rattle.std.proofs.Common.{◌≡◌, length, sym, arith}
use Rattle.std.proofs.lemmas.Bool.{both_ways}
use Rattle.window.specs.Settings.{in_range}
use Rattle.wave.proofs.Looking.{walk_first, walk_on, walk_reached, broken_off, goes_on, ranges, sound_ranges, all_sound, surveyed_all, surveyed_none}
use Rattle.wave.proofs.Wave.survey.Goals as goal

pub returns-then-not-in_range-clause-surveyed : goal.returns-then-not-in_range-clause-surveyed
returns-then-not-in_range-clause-surveyed c =
    let w = c.args.self.now in
    (surveyed_none w c.args.t c.args.v (λ s. both_ways (in_range w.window w.fineness) (sym c.if-not-in_range.ensures.ranges) (sound_ranges w s))).surveyed

pub loop-next-init : goal.loop-next-init
loop-next-init c = walk_first c.args.self.now c.args.t c.args.v

pub look-requires : goal.look-requires
look-requires c =
    let at = simp c.in-Some.is at c.loop-next.invariant in
    record { reached = walk_reached c.args.self.now c.args.t c.args.v c.in-Some.rank c.in-Some.level c.loop-next.seen at }

pub returns-in_err-seen : goal.returns-in_err-seen
returns-in_err-seen c =
    let at = simp c.in-Some.is at c.loop-next.invariant in
    let all = surveyed_none c.args.self.now c.args.t c.args.v (broken_off c.args.self.now c.args.t c.args.v c.in-Some.rank c.in-Some.level c.loop-next.seen at c.in_err-seen.ensures.looked) in
    rw c.from_residual.ensures (record { surveyed = all.surveyed; tested = all.tested })

pub loop-next-preserved : goal.loop-next-preserved
loop-next-preserved c =
    let at = simp c.in-Some.is at c.loop-next.invariant in
    let sees = goes_on c.args.self.now c.args.t c.args.v c.in-Some.rank c.in-Some.level c.loop-next.seen c.in_ok-seen.seen at c.in_ok-seen.ensures.looked in
    walk_on c.args.self.now c.args.t c.args.v c.in-Some.rank c.in_ok-seen.seen c.older-next.result c.older-next.ensures.older sees

pub returns : goal.returns
returns c =
    let w = c.args.self.now in
    let at = simp c.in_default.is at c.loop-next.invariant in
    let r = ranges w.window w.fineness (sym c.if-not-in_range.ensures.ranges) in
    let places : length w.stamps ≡ 104 = omega arith in
    let good = all_sound w c.args.t c.args.v c.loop-next.seen r.0 r.1 r.2 r.3 places at in
    let all = surveyed_all w c.args.t c.args.v c.loop-next.seen c.estimate.result c.estimate.ensures.estimated good at in
    record { surveyed = all.surveyed; tested = all.tested }
