use Rattle.std.proofs.lemmas.Bool.{leb-true, le-leb}
use Rattle.wave.specs.Ranks.{top}
use Rattle.wave.specs.Levels.{keeps_decides, keeps_kept, top_divides, divides_top, newest_decides}
use Rattle.wave.proofs.rules.levels_stand.Goals as goal

pub returns : goal.returns
returns c = record {
  belongs = λ j r h. ((λ e. top_divides r j (leb-true j (top r) e)), (λ s. le-leb j (top r) (rw s.1 (divides_top s.0 j h))));
  newest = newest_decides;
  highest = λ n m j r e. (keeps_decides n m (top r) r).1 (keeps_kept n m j r ((keeps_decides n m j r).0 e));
}
