-- Shapes, nodes, columns and places.
use Rattle.std.specs.Prelude.{ℕ, zero, suc, ◌+◌, ◌-◌, ◌*◌, ◌/◌, ◌%◌, ◌^◌, ◌<◌, cond, List, ◌==◌, bit_xor, slice_index}
use Rattle.sketch.specs.declared.shape.Sketch.{Sketch}

-- the numbers of a sketch: keys have `bits` bits, a level has `rows` rows of 2 to the power of `spread` cells
pub record Shape : Type 0 where
  pub window : ℕ
  pub fineness : ℕ
  pub bits : ℕ
  pub rows : ℕ
  pub spread : ℕ
  -- the seed words, `bits` for each level and row
  pub words : List ℕ

-- the shape that a sketch holds
abbrev pub shape_of : Sketch → Shape
shape_of s = record { window = s.window; fineness = s.fineness; bits = s.bits; rows = s.rows; spread = s.spread; words = s.words }

-- how many columns a row has
abbrev pub width : Shape → ℕ
width s = 2 ^ s.spread

-- how many keys there are
abbrev pub keys : Shape → ℕ
keys s = 2 ^ s.bits

-- how many cells there are: a row of them for each level and row
abbrev pub cell_number : Shape → ℕ
cell_number s = (s.bits + 1) * s.rows * width s

-- how many nodes level k has
abbrev pub nodes : ℕ → ℕ → ℕ
nodes bits k = 2 ^ (bits - k)

-- the node of key x at level k
abbrev pub node_of : ℕ → ℕ → ℕ
node_of k x = x / 2 ^ k

-- the first key that node i of level k covers
abbrev pub first_key : ℕ → ℕ → ℕ
first_key k i = i * 2 ^ k

-- the last key that node i of level k covers
abbrev pub last_key : ℕ → ℕ → ℕ
last_key k i = (i + 1) * 2 ^ k - 1

-- the exclusive or of the words at the set bits of i, among n words from place p on
abbrev pub mixed : List ℕ → ℕ → ℕ → ℕ → ℕ
mixed words p zero i = 0
mixed words p (suc n) i = bit_xor (mixed words p n i) (cond (i / 2 ^ n % 2 == 1) (slice_index words (p + n)) 0)

-- the exclusive or of n words from place p on
abbrev pub run : List ℕ → ℕ → ℕ → ℕ
run words p zero = 0
run words p (suc n) = bit_xor (run words p n) (slice_index words (p + n))

-- the column of node i in row r of level k
abbrev pub column : Shape → ℕ → ℕ → ℕ → ℕ
column s k r i = mixed s.words ((k * s.rows + r) * s.bits) s.bits i

-- the place of the cell of level k, row r and column col
abbrev pub place : Shape → ℕ → ℕ → ℕ → ℕ
place s k r col = (k * s.rows + r) * width s + col

-- a shape with a row, whose words are columns
pub record Sound (s : Shape) : Type 0 where
  pub some_row : 0 < s.rows
  pub words_fit : (p : ℕ) → slice_index s.words p < width s
