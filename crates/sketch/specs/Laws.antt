-- What holds of estimates where the cells stand for the plays.
use Rattle.std.specs.Prelude.{◌≡◌, ℕ, ◌+◌, ◌*◌, ◌<◌, ◌≤◌, cond, List, Ok, Err, Result}
use Rattle.std.specs.List.{AllByRecursion}
use Rattle.window.specs.Meaning.{Model, Stands, Permitted}
use Rattle.sketch.specs.declared.faults.CellFault.{CellFault}
use Rattle.sketch.specs.Layout.{Shape, width, keys}
use Rattle.sketch.specs.Pieces.{over_pieces}
use Rattle.sketch.specs.Plays.{KeyedPlay, count_in, count_of_node, least_row_count, stamps_of}
use Rattle.sketch.specs.Nodes.{clear_piece, cell_at}

-- a cell of this shape that stands for these stamps
pub record Cell {C : Type 0} (m : Model C) (s : Shape) (c : C) (stamps : List ℕ) : Type 0 where
  pub stands : Stands m c stamps
  pub window : m.window c ≡ s.window
  pub fineness : m.fineness c ≡ s.fineness

-- every cell stands for exactly the stamps of the plays whose node has its column there
abbrev pub Faithful : {C : Type 0} → Model C → Shape → List C → List KeyedPlay → Type 0
Faithful {C} m s cells plays = (d : C) (k r col : ℕ) → k ≤ s.bits → r < s.rows → col < width s → Cell m s (cell_at s cells d k r col) (stamps_of s plays k r col)

-- the plays are of enrolled keys, and none is after the clock
pub record Heard (s : Shape) (enrolled clock : ℕ) (plays : List KeyedPlay) : Type 0 where
  pub room : enrolled ≤ keys s
  pub known : AllByRecursion (λ p. p.key < enrolled) plays
  pub past : AllByRecursion (λ p. p.stamp ≤ clock) plays

-- the count of a node that has a clear row, and 0 of any other
abbrev pub clear_count : Shape → ℕ → List KeyedPlay → ℕ → ℕ → ℕ → ℕ → ℕ
clear_count s enrolled plays t v k i = cond (clear_piece s enrolled k i) (count_of_node plays k i t v) 0

-- low and high of the node i hold: its live plays lie between; high is near the least row count, low near the count of a clear node
pub record NodeHolds (s : Shape) (enrolled : ℕ) (plays : List KeyedPlay) (t v k i : ℕ) (low high : ℕ) : Type 0 where
  pub above_low : low ≤ count_of_node plays k i t v
  pub below_high : count_of_node plays k i t v ≤ high
  pub high_near : s.fineness * high ≤ (s.fineness + 1) * least_row_count s plays t v k i
  pub low_near : s.fineness * clear_count s enrolled plays t v k i ≤ (s.fineness + 1) * low

-- low and high of the keys from a to b hold: their live plays are those of the pieces, and lie between; both are near
pub record RangeHolds (s : Shape) (enrolled : ℕ) (plays : List KeyedPlay) (t v a b : ℕ) (low high : ℕ) : Type 0 where
  pub pieces_add : count_in plays a b t v ≡ over_pieces s.bits a b (λ k i. count_of_node plays k i t v)
  pub above_low : low ≤ count_in plays a b t v
  pub below_high : count_in plays a b t v ≤ high
  pub high_near : s.fineness * high ≤ (s.fineness + 1) * over_pieces s.bits a b (least_row_count s plays t v)
  pub low_near : s.fineness * over_pieces s.bits a b (clear_count s enrolled plays t v) ≤ (s.fineness + 1) * low

-- an answer is accepted, with a pair of which P holds
abbrev pub Accepted : (ℕ → ℕ → Type 0) → Result (ℕ × ℕ) CellFault → Type 0
Accepted P (Ok pair) = P pair.0 pair.1
Accepted P (Err f) = ⊥

-- wherever the cells are faithful to plays, and time and span are permitted, the question is answered and the answer holds
abbrev pub Lawful : {C : Type 0} → Model C → Shape → List C → (enrolled t v : ℕ) → (List KeyedPlay → ℕ → ℕ → Type 0) → Result (ℕ × ℕ) CellFault → Type 0
Lawful m s cells enrolled t v P r =
    (plays : List KeyedPlay) (clock : ℕ) → Faithful m s cells plays → Heard s enrolled clock plays → Permitted clock s.window t v → Accepted (P plays) r
