use Rattle.std.proofs.Common.{refl}
use Rattle.desk.specs.Seeds.{words_from}
use Rattle.desk.proofs.seeds.worked_seeds_stand.Goals as goal

pub returns : goal.returns
unfolding words_from
returns c = record { stand = record { first = refl; second = refl; third = refl; fourth = refl; words_of_1 = refl; words_of_0 = refl } }
