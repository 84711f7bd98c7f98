-- Which keys a list names, over the cells of any counter.
use Rattle.std.specs.Prelude.{ℕ, ◌+◌, Bool, List, filter, nat_le}
use Rattle.std.specs.List.{range_with_len}
use Rattle.window.specs.Below.{all_below}
use Rattle.window.specs.Meaning.{Model}
use Rattle.sketch.specs.Layout.{Shape, node_of}
use Rattle.sketch.specs.Nodes.{node_high}

module _ {C : Type 0} (m : Model C) (s : Shape) (cells : List C) (d : C) (t v : ℕ) where
  -- the node of key x has high g or more at every level
  abbrev pub high_everywhere : ℕ → ℕ → Bool
  high_everywhere g x = all_below (λ k. nat_le g (node_high m s cells d t v k (node_of k x))) (s.bits + 1)

  -- the keys that the list for threshold g names, in order: the enrolled ones whose node has high g or more at every level
  abbrev pub listed_keys : ℕ → ℕ → List ℕ
  listed_keys enrolled g = filter (high_everywhere g) (range_with_len 0 enrolled)
