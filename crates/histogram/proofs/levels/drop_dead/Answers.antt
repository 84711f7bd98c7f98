use Rattle.std.proofs.Common.{arith}
use Rattle.histogram.specs.Filling.{live_levels}
use Rattle.histogram.proofs.levels.drop_dead.Goals as goal

pub returns-clause-live : goal.returns-clause-live
returns-clause-live c =
    let l = c.loop-level in
    let done = l.invariant in
    live_levels c.args.t c.args.v c.args.levels.now l.levels done.long (λ k d h. done.done k d (omega (arith, c.told-levels)))
