use Rattle.std.proofs.Common.{refl}
use Rattle.desk.proofs.Drawing.{drawn_none, drawn_more, drawn_all}
use Rattle.desk.proofs.seeds.seed_words.Goals as goal

pub loop-word-init : goal.loop-word-init
loop-word-init c = drawn_none c.args.seed _ refl

pub loop-word-preserved : goal.loop-word-preserved
loop-word-preserved c = drawn_more c.args.seed c.loop-word.word-index c.loop-word.x c.loop-word.word-items c.loop-word.invariant c.next-x.result c.top_bits.result c.loop-word-test.true c.next-x.ensures.next c.top_bits.ensures.top c.top_bits.ensures.below

pub returns : goal.returns
returns c =
    let all = drawn_all c.args.seed c.loop-word.word-index c.loop-word.x c.loop-word.word-items c.loop-word.invariant c.loop-word-test.false in
    record { drawn = all.0; below = all.1 }
