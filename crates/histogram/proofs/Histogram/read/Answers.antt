use Rattle.std.proofs.Common.{◌≡◌, ◌<◌, ◌≤◌, true, [], map, length, get_or, Some, None, sym, subst, rules}
use Rattle.histogram.specs.declared.levels.Level.{Level}
use Rattle.histogram.specs.Buckets.{bucket}
use Rattle.histogram.specs.Readings.{GoesOn}
use Rattle.histogram.specs.Histograms.{may_follow, Reads}
use Rattle.histogram.specs.Passing.{pass_more, pass_rises, pass_misfits, pass_all}
use Rattle.histogram.specs.Soundness.{unsound_ranges, unsound_fills, unsound_falls, pass_reads}
use Rattle.histogram.proofs.Histogram.read.Goals as goal

pub returns-then-not-in_range : goal.returns-then-not-in_range
returns-then-not-in_range c = record { reads = unsound_ranges c.args.self.now (sym c.if-not-in_range.ensures.ranges) }

pub returns-then-not-may_follow : goal.returns-then-not-may_follow
returns-then-not-may_follow c =
    let held = c.args.self.now in
    let l = c.loop-level in
    let none : Level = record { number = 0; stamps = [] } in
    let inside : l.level-index < length held.levels = search rules in
    record { reads = unsound_fills held (pass_misfits held.fineness held.last c.args.t c.args.v held.levels l.level-index l.tally l.size l.before l.invariant none inside (sym c.if-not-may_follow.ensures.follows)) }

pub returns-in_err-tally : goal.returns-in_err-tally
returns-in_err-tally c =
    let held = c.args.self.now in
    let l = c.loop-level in
    let none : Level = record { number = 0; stamps = [] } in
    let inside : l.level-index < length held.levels = search rules in
    let rises = subst (λ z. GoesOn c.args.t c.args.v (map (bucket l.size) z) l.tally None) c.in_use.ensures.used c.in_err-tally.ensures.goes_on in
    rw c.from_residual.ensures (record { reads = unsound_falls held (pass_rises held.fineness held.last c.args.t c.args.v held.levels l.level-index l.tally l.size l.before l.invariant none inside rises) })

pub loop-level-preserved : goal.loop-level-preserved
loop-level-preserved c =
    let held = c.args.self.now in
    let l = c.loop-level in
    let none : Level = record { number = 0; stamps = [] } in
    let inside : l.level-index < length held.levels = search rules in
    let may : may_follow held.fineness l.before (get_or held.levels l.level-index none).number ≡ true = sym c.if-not-may_follow.ensures.follows in
    let on = subst (λ z. GoesOn c.args.t c.args.v (map (bucket l.size) z) l.tally (Some c.in_ok-tally.tally)) c.in_use.ensures.used c.in_ok-tally.ensures.goes_on in
    pass_more held.fineness held.last c.args.t c.args.v held.levels l.level-index l.tally l.size l.before l.invariant none inside c.in_ok-tally.tally
    c.in_use.ensures.places may on c.in_ok-tally.ensures.bounded.0 c.in_ok-tally.ensures.bounded.1

pub returns : goal.returns
returns c =
    let held = c.args.self.now in
    let l = c.loop-level in
    let twelve : length held.levels ≡ 12 = search rules in
    let end : length held.levels ≤ l.level-index = search rules in
    let all = pass_all held.fineness held.last c.args.t c.args.v held.levels l.level-index l.tally l.size l.before l.invariant end in
    record { reads = subst (Reads held c.args.t c.args.v) (sym c.then_some.ensures) (pass_reads held c.args.t c.args.v l.tally (sym c.if-not-in_range.ensures.ranges) twelve all) }
