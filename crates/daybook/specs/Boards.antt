-- What a board says, by its shape, its cells and its register.
use Rattle.std.specs.Prelude.{ℕ, List, length}
use Rattle.window.specs.Meaning.{Model}
use Rattle.sketch.specs.Layout.{Shape}
use Rattle.sketch.specs.Nodes.{range_low, range_high}
use Rattle.listing.specs.Listing.{listed_keys}
use Rattle.daybook.specs.Book.{Serial}

-- an opened board with its cells and its register of enrolled serials
pub record State (C : Type 0) : Type 0 where
  pub shape : Shape
  pub cells : List C
  pub register : List Serial
  -- the last accepted stamp
  pub clock : ℕ
  -- how many plays were accepted
  pub accepted : ℕ

module _ {C : Type 0} (m : Model C) (σ : State C) (d : C) (t v : ℕ) where
  -- the low of the keys from a to b
  abbrev pub low_of : ℕ → ℕ → ℕ
  low_of a b = range_low m σ.shape σ.cells d (length σ.register) t v a b

  -- the high of the keys from a to b
  abbrev pub high_of : ℕ → ℕ → ℕ
  high_of a b = range_high m σ.shape σ.cells d t v a b

  -- the keys that the list for threshold g names, in order: the enrolled ones whose node has high g or more at every level
  abbrev pub listed : ℕ → List ℕ
  listed g = listed_keys m σ.shape σ.cells d t v (length σ.register) g
