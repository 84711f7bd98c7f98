-- Small cases worked by hand.
use Rattle.std.specs.Prelude.{◌≡◌, ℕ, true, false, List, [], ◌∷◌, replicate, filter}
use Rattle.std.specs.List.{range_with_len}
use Rattle.sketch.specs.Layout.{Shape, column}
use Rattle.sketch.specs.Pieces.{is_piece}
use Rattle.sketch.specs.Nodes.{clear, clear_piece}

-- four keys in one row of two columns, with the words 1 and 0
abbrev pub two_columns : Shape
two_columns = record { window = 100; fineness = 1; bits = 2; rows = 1; spread = 1; words = 1 ∷ 0 ∷ [] }

-- 32 keys, two rows of four columns a level, and every seed word 0, so that all nodes of a level share a column
abbrev pub one_column : Shape
one_column = record { window = 100; fineness = 2; bits = 5; rows = 2; spread = 2; words = replicate 60 0 }

-- what the definitions give
pub record WorkedCases : Type 0 where
  -- by the words 1 and 0 the columns of nodes 0 to 3 are 0, 1, 0, 1
  pub column_of_0 : column two_columns 0 0 0 ≡ 0
  pub column_of_1 : column two_columns 0 0 1 ≡ 1
  pub column_of_2 : column two_columns 0 0 2 ≡ 0
  pub column_of_3 : column two_columns 0 0 3 ≡ 1
  -- of 8 keys, the pieces of the keys from 1 to 6 are key 1, keys 2 and 3, keys 4 and 5, key 6
  pub pieces_of_one_key : filter (is_piece 3 1 6 0) (range_with_len 0 8) ≡ 1 ∷ 6 ∷ []
  pub pieces_of_two_keys : filter (is_piece 3 1 6 1) (range_with_len 0 4) ≡ 1 ∷ 2 ∷ []
  pub pieces_of_four_keys : ◌≡◌ {A = List ℕ} (filter (is_piece 3 1 6 2) (range_with_len 0 2)) []
  pub pieces_of_all_keys : ◌≡◌ {A = List ℕ} (filter (is_piece 3 1 6 3) (range_with_len 0 1)) []
  -- the only enrolled key is clear; with a second one neither is; the top node has no other beside it
  pub alone_is_clear : clear one_column 1 0 0 0 ≡ true
  pub shared_is_not : clear_piece one_column 2 0 0 ≡ false
  pub free_key_is_not : clear_piece one_column 1 0 1 ≡ false
  pub top_is_clear : clear one_column 32 5 0 1 ≡ true
