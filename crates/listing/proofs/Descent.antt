-- The nodes of a key, level by level from the top of the new ones down.
use Rattle.std.proofs.Common.{ℕ, List}
use Rattle.window.specs.Meaning.{Model}
use Rattle.sketch.specs.Layout.{Shape}
use Rattle.listing.specs.Answers.{new_levels, Reached}

-- the new levels from k on have a node that reaches g
pub record Descended {C : Type 0} (m : Model C) (s : Shape) (cells : List C) (t v g x k : ℕ) : Type 0 where
  pub reached : (d : C) → Reached m s cells d t v g x k (new_levels s.bits x)
