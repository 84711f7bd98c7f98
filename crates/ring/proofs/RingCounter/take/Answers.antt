use Rattle.std.proofs.Common.{arith}
use Rattle.std.proofs.lemmas.Bool.Decides.{nat_tests}
use Rattle.window.specs.Causes.{Admitted}
use Rattle.window.specs.Faults.{take_causes}
use Rattle.ring.specs.Kept.{ring_model}
use Rattle.ring.specs.Standing.{arrived}
use Rattle.ring.proofs.RingCounter.take.Goals as goal

pub returns-clause-took : goal.returns-clause-took
returns-clause-took c =
    let admitted : Admitted (take_causes ring_model c.args.self.now c.args.t) = grind (arith, nat_tests) in
    (admitted, arrived c.args.self.now c.arrive.new.self c.args.t admitted c.arrive.ensures.stored)
