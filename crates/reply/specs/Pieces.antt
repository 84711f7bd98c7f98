-- A line as data: the pieces that it is made of.
use Rattle.std.specs.Prelude.{ℕ, List, [], ◌∷◌, ◌++◌, decimal}
use Rattle.std.specs.List.{flat_map}

-- bytes as they stand, or a number in decimal
pub data Piece : Type 0 where
  as_is : List ℕ → Piece
  in_decimal : ℕ → Piece

-- its bytes
abbrev pub piece_text : Piece → List ℕ
piece_text (as_is bs) = bs
piece_text (in_decimal n) = decimal n

-- a line: its pieces one after another, and a newline
abbrev pub line_text : List Piece → List ℕ
line_text ps = flat_map piece_text ps ++ (10 ∷ [])
