use Rattle.std.proofs.Common.{arith}
use Rattle.std.proofs.lemmas.Bool.Decides.{nat_tests}
use Rattle.std.proofs.lemmas.Grind.{common_steps}
use Rattle.sketch.proofs.estimates.odd_ends.Goals as goal
use Rattle.sketch.proofs.estimates.odd_ends.Goals.{then-lo-eq1, else-lo-eq1}

pub returns-then-hi-eq1 : goal.returns-then-hi-eq1
returns-then-hi-eq1 c = record { ends = grind (arith, common_steps, nat_tests) }

pub returns-else-hi-eq1 : goal.returns-else-hi-eq1
returns-else-hi-eq1 c = record { ends = elim c.if-lo-eq1.branch [ then-lo-eq1 w ↦ grind (arith, common_steps, nat_tests) | else-lo-eq1 w ↦ grind (arith, common_steps, nat_tests) ] }

pub returns-else-lo-hi : goal.returns-else-lo-hi
returns-else-lo-hi c = record { ends = grind (arith, common_steps, nat_tests) }
