-- What a question about a node or a key range is answered with.
use Rattle.std.specs.Prelude.{◌≡◌, ℕ, ◌<◌, ◌≤◌, Bool, true, false, cond, List, is_some, Some, None, Ok, Err, Option, Result, slice_index}
use Rattle.arrayvec.specs.ArrayVec.{ArrayVec, array_vec_len}
use Rattle.window.specs.Causes.{first_cause, Refused}
use Rattle.window.specs.Meaning.{Model}
use Rattle.window.specs.Faults.{number, count_causes}
use Rattle.window.specs.declared.CounterFault.{CounterFault}
use Rattle.sketch.specs.declared.faults.CellFault.{CellFault}
use Rattle.sketch.specs.Extremes.{sum_below}
use Rattle.sketch.specs.Layout.{Shape, column}
use Rattle.sketch.specs.Pieces.{is_piece, over_pieces}
use Rattle.sketch.specs.Nodes.{cell_at, cell_of, node_low, node_high, range_low, range_high}

-- a counter's answer passed on; a refusal is told with the cell's level, row and column and the stamp
abbrev pub PassedOn : {T : Type 0} → Result T CounterFault → (level row column stamp : ℕ) → Result T CellFault → Type 0
PassedOn (Ok x) level row column stamp r = r ≡ Ok x
PassedOn (Err f) level row column stamp r = r ≡ Err (record { level = level; row = row; column = column; stamp = stamp; fault = f })

-- a counter refuses to count at t over v
abbrev pub refuses_count : {C : Type 0} → Model C → C → ℕ → ℕ → Bool
refuses_count m c t v = is_some (first_cause (count_causes m c t v))

-- the count of the cell of level k, row r and column col; a refusal is told with where it stands and the asked time
abbrev pub CellCounted : {C : Type 0} → Model C → Shape → List C → (k r col t v : ℕ) → Result (ℕ × ℕ) CellFault → Type 0
CellCounted {C} m s cells k r col t v (Ok pair) =
    (d : C) → (refuses_count m (cell_at s cells d k r col) t v ≡ false) × (pair.0 ≡ m.low (cell_at s cells d k r col) t v) × (pair.1 ≡ m.high (cell_at s cells d k r col) t v)
CellCounted {C} m s cells k r col t v (Err f) =
    (f.level ≡ k) × (f.row ≡ r) × (f.column ≡ col) × (f.stamp ≡ t) × ((d : C) → Refused (count_causes m (cell_at s cells d k r col) t v) (number f.fault))

-- how many cells of node i refuse
abbrev pub refusing_cells : {C : Type 0} → Model C → Shape → List C → C → ℕ → ℕ → ℕ → ℕ → ℕ
refusing_cells m s cells d t v k i = sum_below (λ r. cond (refuses_count m (cell_of s cells d k i r) t v) 1 0) s.rows

-- a fault names a cell of node i at level k that refuses to count, with the asked time for its stamp
pub record NamesRefusing {C : Type 0} (m : Model C) (s : Shape) (cells : List C) (t v k i : ℕ) (f : CellFault) : Type 0 where
  pub level : f.level ≡ k
  pub row : f.row < s.rows
  pub column : f.column ≡ column s k f.row i
  pub stamp : f.stamp ≡ t
  pub refused : (d : C) → Refused (count_causes m (cell_at s cells d k f.row f.column) t v) (number f.fault)

-- the lows of the cells of node i, one for each row, and its high, where none of its cells refuses
abbrev pub RowsAnswer : {C : Type 0} → Model C → Shape → List C → (t v k i : ℕ) → Result (ArrayVec ℕ × ℕ) CellFault → Type 0
RowsAnswer {C} m s cells t v k i (Ok pair) =
    (array_vec_len pair.0 ≡ s.rows) × ((d : C) → (refusing_cells m s cells d t v k i ≡ 0) × ((r : ℕ) → r < s.rows → slice_index pair.0.items r ≡ m.low (cell_of s cells d k i r) t v) × (pair.1 ≡ node_high m s cells d t v k i))
RowsAnswer m s cells t v k i (Err f) = NamesRefusing m s cells t v k i f

-- the answer on the high of node i of level k, where none of its cells refuses
abbrev pub HighAnswer : {C : Type 0} → Model C → Shape → List C → (t v k i : ℕ) → Result ℕ CellFault → Type 0
HighAnswer {C} m s cells t v k i (Ok high) = (d : C) → (refusing_cells m s cells d t v k i ≡ 0) × (high ≡ node_high m s cells d t v k i)
HighAnswer m s cells t v k i (Err f) = NamesRefusing m s cells t v k i f

-- the answer on node i of level k: its low and high, where none of its cells refuses
abbrev pub NodeAnswer : {C : Type 0} → Model C → Shape → List C → (enrolled t v k i : ℕ) → Result (ℕ × ℕ) CellFault → Type 0
NodeAnswer {C} m s cells enrolled t v k i (Ok pair) =
    (d : C) → (refusing_cells m s cells d t v k i ≡ 0) × (pair.0 ≡ node_low m s cells d enrolled t v k i) × (pair.1 ≡ node_high m s cells d t v k i)
NodeAnswer m s cells enrolled t v k i (Err f) = NamesRefusing m s cells t v k i f

-- the answer on node i of level k where its high is g or more, and none where it is less
abbrev pub ReachAnswer : {C : Type 0} → Model C → Shape → List C → (enrolled t v k i g : ℕ) → Result (Option (ℕ × ℕ)) CellFault → Type 0
ReachAnswer m s cells enrolled t v k i g (Ok (Some pair)) = (g ≤ pair.1) × NodeAnswer m s cells enrolled t v k i (Ok pair)
ReachAnswer {C} m s cells enrolled t v k i g (Ok None) = (d : C) → (refusing_cells m s cells d t v k i ≡ 0) × (node_high m s cells d t v k i < g)
ReachAnswer m s cells enrolled t v k i g (Err f) = NamesRefusing m s cells t v k i f

-- the answer on the keys from a to b: their low and high, where no cell of a piece refuses
abbrev pub RangeAnswer : {C : Type 0} → Model C → Shape → List C → (enrolled t v a b : ℕ) → Result (ℕ × ℕ) CellFault → Type 0
RangeAnswer {C} m s cells enrolled t v a b (Ok pair) =
    (d : C) → (over_pieces s.bits a b (refusing_cells m s cells d t v) ≡ 0) × (pair.0 ≡ range_low m s cells d enrolled t v a b) × (pair.1 ≡ range_high m s cells d t v a b)
RangeAnswer m s cells enrolled t v a b (Err f) =
    (f.level ≤ s.bits) × ((i : ℕ) × (is_piece s.bits a b f.level i ≡ true) × NamesRefusing m s cells t v f.level i f)
