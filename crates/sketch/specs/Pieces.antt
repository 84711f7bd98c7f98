-- The pieces of a key range.
use Rattle.std.specs.Prelude.{ℕ, ◌+◌, ◌-◌, ◌/◌, ◌%◌, Bool, cond, not, ◌&&◌, ◌||◌, List, [], ◌∷◌, ◌++◌, ◌==◌, nat_le, nat_lt}
use Rattle.sketch.specs.Extremes.{sum_below}
use Rattle.sketch.specs.Layout.{nodes, first_key, last_key}

-- node i of level k lies wholly in the keys from a to b
abbrev pub inside : ℕ → ℕ → ℕ → ℕ → Bool
inside a b k i = nat_le a (first_key k i) && nat_le (last_key k i) b

-- node i of level k is a piece of the keys from a to b: wholly in them, and at the top level or with a parent that is not
abbrev pub is_piece : ℕ → ℕ → ℕ → ℕ → ℕ → Bool
is_piece bits a b k i = inside a b k i && (k == bits || not (inside a b (k + 1) (i / 2)))

-- of the nodes from lo on and below hi, the first where it is a right half, and the last where it is a left half
abbrev pub odd_ends : ℕ → ℕ → List ℕ
odd_ends lo hi = cond (nat_lt lo hi) (cond (lo % 2 == 1) (lo ∷ []) [] ++ cond (hi % 2 == 1) ((hi - 1) ∷ []) []) []

-- the sum of f over the pieces of level k
abbrev pub over_level : ℕ → ℕ → ℕ → (ℕ → ℕ → ℕ) → ℕ → ℕ
over_level bits a b f k = sum_below (λ i. cond (is_piece bits a b k i) (f k i) 0) (nodes bits k)

-- the sum of f over the pieces of the keys from a to b
abbrev pub over_pieces : ℕ → ℕ → ℕ → (ℕ → ℕ → ℕ) → ℕ
over_pieces bits a b f = sum_below (over_level bits a b f) (bits + 1)
