use Rattle.std.proofs.Common.{refl}
use Rattle.window.specs.Below.{any_below}
use Rattle.sketch.proofs.worked.worked_cases_stand.Goals as goal

pub returns : goal.returns
unfolding any_below
returns c = record { stand = record { column_of_0 = refl; column_of_1 = refl; column_of_2 = refl; column_of_3 = refl; pieces_of_one_key = refl; pieces_of_two_keys = refl; pieces_of_four_keys = refl; pieces_of_all_keys = refl; alone_is_clear = refl; shared_is_not = refl; free_key_is_not = refl; top_is_clear = refl } }
