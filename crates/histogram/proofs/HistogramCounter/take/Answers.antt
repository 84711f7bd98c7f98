use Rattle.std.proofs.Common.{◌≡◌, sym, subst, arith}
use Rattle.std.proofs.lemmas.Bool.Decides.{nat_tests}
use Rattle.window.specs.Causes.{Admitted}
use Rattle.window.specs.Faults.{take_causes}
use Rattle.window.proofs.Estimates.{in_turn}
use Rattle.histogram.specs.Histograms.{high_at, Arrives, histogram_model}
use Rattle.histogram.specs.Laws.{advances, arrived}
use Rattle.histogram.proofs.HistogramCounter.take.Goals as goal

pub returns-in_ok-has_room-in-Some-clause-took : goal.returns-in_ok-has_room-in-Some-clause-took
returns-in_ok-has_room-in-Some-clause-took c =
    let held = c.args.self.now in
    let t = c.args.t in
    let high : c.in-Some.high ≡ high_at held t held.window = c.in-Some.ensures.reads.2 in
    let admitted : Admitted (take_causes histogram_model held t) = grind (arith, nat_tests) in
    (admitted, arrived held c.arrive.new.self t (in_turn held.last held.taken t c.in_ok-in_turn.ensures.tested).0 c.arrive.ensures.arrives)

pub returns-in-None-clause-leaves : goal.returns-in-None-clause-leaves
returns-in-None-clause-leaves c =
    let held = c.args.self.now in
    let t = c.args.t in
    subst (λ z. Arrives held z t) (sym c.advance.ensures.advanced) (advances held t (in_turn held.last held.taken t c.in_ok-in_turn.ensures.tested).0 c.in-None.ensures.reads)
