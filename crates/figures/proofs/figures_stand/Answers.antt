use Rattle.std.proofs.Common.{refl}
use lib.Count.{count_trailing_zeros}
use Rattle.window.specs.Below.{all_below, any_below}
use Rattle.wave.specs.Searches.{first_below, last_below}
use Rattle.wave.specs.Ranks.{keeps, kept}
use Rattle.wave.specs.Waves.{oldest_live, newest_dead, rises, none_late, sound}
use Rattle.figures.specs.Figures.{wave_after}
use Rattle.figures.proofs.figures_stand.Goals as goal

pub returns : goal.returns
unfolding wave_after sound none_late rises newest_dead oldest_live kept keeps all_below any_below first_below last_below count_trailing_zeros
returns c = record {
  stand = record {
    histogram_over_seven = (refl, refl);
    histogram_over_four = (refl, refl);
    histogram_over_three = (refl, refl);
    histogram_newest_alone = (refl, refl);
    histogram_none_live = (refl, refl);
    wave_sound = refl;
    wave_over_seven = (refl, refl);
    wave_over_four = (refl, refl);
    wave_over_three = (refl, refl);
    column_of_0 = refl;
    column_of_1 = refl;
    column_of_2 = refl;
    column_of_3 = refl;
    pieces_of_one_key = refl;
    pieces_of_two_keys = refl;
    pieces_of_four_keys = refl;
    pieces_of_all_keys = refl;
    alone_is_clear = refl;
    shared_is_not = refl;
    free_key_is_not = refl;
    top_is_clear = refl;
  };
}
