-- Plays by key and stamp, and how many of them are live.
use Rattle.std.specs.Prelude.{ℕ, Bool, ◌&&◌, List, map, count_by, filter, nat_eq, nat_le}
use Rattle.window.specs.Stamps.{is_live}
use Rattle.sketch.specs.Extremes.{least_below}
use Rattle.sketch.specs.Layout.{Shape, node_of, column}

-- a play of the cabinet with a key
pub record KeyedPlay : Type 0 where
  pub key : ℕ
  pub stamp : ℕ

-- how many plays are live at t over v and have a key that passes
abbrev pub count_where : List KeyedPlay → (ℕ → Bool) → ℕ → ℕ → ℕ
count_where plays passes t v = count_by (λ p. is_live t v p.stamp && passes p.key) plays

-- of the keys from a to b
abbrev pub count_in : List KeyedPlay → ℕ → ℕ → ℕ → ℕ → ℕ
count_in plays a b t v = count_where plays (λ x. nat_le a x && nat_le x b) t v

-- of the keys that node i of level k covers
abbrev pub count_of_node : List KeyedPlay → ℕ → ℕ → ℕ → ℕ → ℕ
count_of_node plays k i t v = count_where plays (λ x. nat_eq (node_of k x) i) t v

-- of the keys whose node has the column of node i in row r
abbrev pub row_count : Shape → List KeyedPlay → ℕ → ℕ → ℕ → ℕ → ℕ → ℕ
row_count s plays t v k i r = count_where plays (λ x. nat_eq (column s k r (node_of k x)) (column s k r i)) t v

-- the smallest row count of a node
abbrev pub least_row_count : Shape → List KeyedPlay → ℕ → ℕ → ℕ → ℕ → ℕ
least_row_count s plays t v k i = least_below (row_count s plays t v k i) s.rows

-- the stamps of the plays whose node has column col in row r of level k
abbrev pub stamps_of : Shape → List KeyedPlay → ℕ → ℕ → ℕ → List ℕ
stamps_of s plays k r col = map (λ p. p.stamp) (filter (λ p. nat_eq (column s k r (node_of k p.key)) col) plays)
