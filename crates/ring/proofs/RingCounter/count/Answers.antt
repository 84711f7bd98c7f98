use Rattle.window.proofs.Estimates.{estimate}
use Rattle.ring.specs.Kept.{ring_model}
use Rattle.ring.specs.Standing.{ring_keeps}
use Rattle.ring.proofs.RingCounter.count.Goals as goal

pub returns : goal.returns
returns c =
    let permitted = c.in_ok-permit.ensures.tested in
    let live = c.live-live.ensures.live in
    record { counted = (permitted, estimate ring_model ring_keeps c.args.self.now c.args.t c.args.v _ _ permitted live live) }
