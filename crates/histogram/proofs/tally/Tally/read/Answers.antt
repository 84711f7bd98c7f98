use Rattle.std.proofs.Common.{arith}
use Rattle.histogram.proofs.Reading.{reading_more, reading_rises, high_within, size_more}
use Rattle.histogram.proofs.tally.Tally.read.Goals as goal

pub returns-then-stamp-tally-clause-goes_on : goal.returns-then-stamp-tally-clause-goes_on
returns-then-stamp-tally-clause-goes_on c = reading_rises c.args.t c.args.v c.args.size c.loop-stamp.stamp-index c.args.stamps.now c.args.self c.loop-stamp.tally c.loop-stamp-test.true c.loop-stamp.invariant.0 c.if-stamp-tally.true

pub loop-stamp-preserved : goal.loop-stamp-preserved
loop-stamp-preserved c =
    let more = size_more c.loop-stamp.stamp-index c.args.size (omega (arith, c.loop-stamp-test.true, c.requires.few)) in
    let wide = c.widened-tally.ensures.widened in (
      reading_more c.args.t c.args.v c.args.size c.loop-stamp.stamp-index c.args.stamps.now c.args.self c.loop-stamp.tally c.widened-tally.result c.loop-stamp-test.true c.loop-stamp.invariant.0 c.if-stamp-tally.false wide,
      high_within _ _ _ _ _ _ wide c.loop-stamp.invariant.1,
      omega (arith, wide.sum, more.0, c.loop-stamp.invariant.2),
    )
