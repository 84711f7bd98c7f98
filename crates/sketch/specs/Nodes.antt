-- What cells say of a node and of a key range.
use Rattle.std.specs.Prelude.{ℕ, Bool, cond, not, ◌&&◌, List, ◌==◌, nat_lt, slice_index, slice_index_or}
use Rattle.window.specs.Below.{any_below}
use Rattle.window.specs.Meaning.{Model}
use Rattle.sketch.specs.Extremes.{least_below, most_below}
use Rattle.sketch.specs.Layout.{Shape, nodes, first_key, column, place}
use Rattle.sketch.specs.Pieces.{over_pieces}

-- node j of level k covers one of the enrolled keys
abbrev pub covers_enrolled : ℕ → ℕ → ℕ → Bool
covers_enrolled enrolled k j = nat_lt (first_key k j) enrolled

-- node j is another than i, covers an enrolled key, and has the column of i in row r
abbrev pub shares : Shape → ℕ → ℕ → ℕ → ℕ → ℕ → Bool
shares s enrolled k r i j = not (j == i) && (covers_enrolled enrolled k j && column s k r j == column s k r i)

-- row r is clear for node i: no other node of the level that covers an enrolled key shares its column
abbrev pub clear : Shape → ℕ → ℕ → ℕ → ℕ → Bool
clear s enrolled k i r = not (any_below (shares s enrolled k r i) (nodes s.bits k))

-- the largest number at a clear row of node i, of one number for each row, or 0 when it has none
abbrev pub largest_clear : Shape → ℕ → ℕ → ℕ → List ℕ → ℕ
largest_clear s enrolled k i lows = most_below (λ r. cond (clear s enrolled k i r) (slice_index lows r) 0) s.rows

-- node i has a clear row
abbrev pub clear_piece : Shape → ℕ → ℕ → ℕ → Bool
clear_piece s enrolled k i = any_below (clear s enrolled k i) s.rows

-- the cell of level k, row r and column col; d is what a list gives past its end
abbrev pub cell_at : {C : Type 0} → Shape → List C → C → ℕ → ℕ → ℕ → C
cell_at s cells d k r col = slice_index_or cells (place s k r col) d

-- the cell of node i in row r of level k
abbrev pub cell_of : {C : Type 0} → Shape → List C → C → ℕ → ℕ → ℕ → C
cell_of s cells d k i r = cell_at s cells d k r (column s k r i)

module _ {C : Type 0} (m : Model C) (s : Shape) (cells : List C) (d : C) (enrolled t v : ℕ) where
  -- the low of the cell of node i in a clear row, and 0 in any other row
  abbrev pub clear_low : ℕ → ℕ → ℕ → ℕ
  clear_low k i r = cond (clear s enrolled k i r) (m.low (cell_of s cells d k i r) t v) 0

  -- the low of node i: the largest among its clear rows, or 0 when it has none
  abbrev pub node_low : ℕ → ℕ → ℕ
  node_low k i = most_below (clear_low k i) s.rows

  -- the low of the keys from a to b: the sum of their pieces' lows
  abbrev pub range_low : ℕ → ℕ → ℕ
  range_low a b = over_pieces s.bits a b node_low

module _ {C : Type 0} (m : Model C) (s : Shape) (cells : List C) (d : C) (t v : ℕ) where
  -- the high of node i: the smallest among its cells
  abbrev pub node_high : ℕ → ℕ → ℕ
  node_high k i = least_below (λ r. m.high (cell_of s cells d k i r) t v) s.rows

  -- the high of the keys from a to b: the sum of their pieces' highs
  abbrev pub range_high : ℕ → ℕ → ℕ
  range_high a b = over_pieces s.bits a b node_high
