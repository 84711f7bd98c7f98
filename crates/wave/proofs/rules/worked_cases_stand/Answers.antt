use Rattle.std.proofs.Common.{refl}
use Rattle.std.specs.Int.Count.{count_trailing_zeros}
use Rattle.window.specs.Below.{all_below, any_below}
use Rattle.wave.specs.Searches.{first_below, last_below}
use Rattle.wave.specs.Ranks.{keeps, kept}
use Rattle.wave.specs.Waves.{oldest_live, newest_dead, rises, none_late, sound}
use Rattle.wave.specs.Worked.{after}
use Rattle.wave.proofs.rules.worked_cases_stand.Goals as goal

pub returns : goal.returns
unfolding after sound none_late rises newest_dead oldest_live kept keeps all_below any_below first_below last_below count_trailing_zeros
returns c = record { stand = record { is_sound = refl; over_seven = (refl, refl); over_four = (refl, refl); over_three = (refl, refl) } }
