use Rattle.wave.specs.Levels.{kept_decides}
use Rattle.wave.proofs.Places.{places_apart}
use Rattle.wave.specs.Parts.{stands_decides}
use Rattle.wave.proofs.rules.meaning_stands.Goals as goal

pub returns : goal.returns
returns c = record {
  apart = λ n m a b six ka kb. places_apart n m a b six ((kept_decides n m a).0 ka) ((kept_decides n m b).0 kb);
  stands = stands_decides;
}
