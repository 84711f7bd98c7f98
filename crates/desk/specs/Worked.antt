-- Numbers worked elsewhere.
use Rattle.std.specs.Prelude.{◌≡◌, [], ◌∷◌}
use Rattle.xorshift.specs.Xorshift.{next}
use Rattle.desk.specs.Seeds.{words_from}

-- from seed 1 the published generator gives these four numbers, and the words are their highest bits; seed 0 gives words of 0
pub record WorkedSeeds : Type 0 where
  pub first : next 1 ≡ 270369
  pub second : next 270369 ≡ 67634689
  pub third : next 67634689 ≡ 2647435461
  pub fourth : next 2647435461 ≡ 307599695
  pub words_of_1 : words_from 4 1 ≡ 0 ∷ 0 ∷ 2 ∷ 0 ∷ []
  pub words_of_0 : words_from 4 0 ≡ 0 ∷ 0 ∷ 0 ∷ 0 ∷ []
