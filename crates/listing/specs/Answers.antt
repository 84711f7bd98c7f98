-- What a list is answered with, and which nodes it asks on the way.
use Rattle.std.specs.Prelude.{◌≡◌, ℕ, ◌+◌, ◌<◌, ◌≤◌, min, Bool, List, map, length, Some, None, Ok, Err, Option, Result, nat_lt}
use Rattle.std.specs.Int.Count.{count_trailing_zeros}
use Rattle.arrayvec.specs.ArrayVec.{ArrayVec}
use Rattle.window.specs.Meaning.{Model}
use Rattle.sketch.specs.declared.faults.CellFault.{CellFault}
use Rattle.sketch.specs.Layout.{Shape, node_of}
use Rattle.sketch.specs.Nodes.{node_low, node_high, range_low, range_high}
use Rattle.sketch.specs.Answers.{refusing_cells, NamesRefusing}
use Rattle.listing.specs.declared.Listed.{Listed}
use Rattle.listing.specs.Listing.{listed_keys}

-- how many levels have a new node at key x: those up to the number of zero bits at its low end
abbrev pub new_levels : ℕ → ℕ → ℕ
new_levels bits x = min (count_trailing_zeros 32 x) bits + 1

module _ {C : Type 0} (m : Model C) (s : Shape) (cells : List C) (d : C) (t v : ℕ) where
  -- no cell of the node of key x at level k refuses
  abbrev pub Willing : ℕ → ℕ → Type 0
  Willing x k = refusing_cells m s cells d t v k (node_of k x) ≡ 0

  -- the high of the node of key x at level k
  abbrev pub high_at : ℕ → ℕ → ℕ
  high_at x k = node_high m s cells d t v k (node_of k x)

  -- at each level from a on and below b the node of key x has high g or more, and no cell of it refuses
  abbrev pub Reached : (g x a b : ℕ) → Type 0
  Reached g x a b = (k : ℕ) → a ≤ k → k < b → Willing x k × (g ≤ high_at x k)

-- whether the node of key x at level k has a high below g
abbrev pub MissesAnswer : {C : Type 0} → Model C → Shape → List C → (t v g x k : ℕ) → Result Bool CellFault → Type 0
MissesAnswer {C} m s cells t v g x k (Ok misses) = (d : C) → Willing m s cells d t v x k × (misses ≡ nat_lt (high_at m s cells d t v x k) g)
MissesAnswer m s cells t v g x k (Err f) = NamesRefusing m s cells t v k (node_of k x) f

-- the highest new level above 0 at which the node of key x has a high below g, and none where there is no such level
abbrev pub MissAnswer : {C : Type 0} → Model C → Shape → List C → (t v g x : ℕ) → Result (Option ℕ) CellFault → Type 0
MissAnswer {C} m s cells t v g x (Ok (Some k)) =
    (0 < k) × (k < new_levels s.bits x) × ((d : C) → Willing m s cells d t v x k × (high_at m s cells d t v x k < g) × Reached m s cells d t v g x (k + 1) (new_levels s.bits x))
MissAnswer {C} m s cells t v g x (Ok None) = (d : C) → Reached m s cells d t v g x 1 (new_levels s.bits x)
MissAnswer {C} m s cells t v g x (Err f) =
    (0 < f.level) × (f.level < new_levels s.bits x) × ((d : C) → Reached m s cells d t v g x (f.level + 1) (new_levels s.bits x)) × NamesRefusing m s cells t v f.level (node_of f.level x) f

-- key x with the low and high of its own node where that high is g or more, and none where it is less
abbrev pub EntryAnswer : {C : Type 0} → Model C → Shape → List C → (enrolled t v g x : ℕ) → Result (Option Listed) CellFault → Type 0
EntryAnswer {C} m s cells enrolled t v g x (Ok (Some e)) =
    (e.key ≡ x) × (g ≤ e.high) × ((d : C) → (refusing_cells m s cells d t v 0 x ≡ 0) × (e.low ≡ node_low m s cells d enrolled t v 0 x) × (e.high ≡ node_high m s cells d t v 0 x))
EntryAnswer {C} m s cells enrolled t v g x (Ok None) = (d : C) → (refusing_cells m s cells d t v 0 x ≡ 0) × (node_high m s cells d t v 0 x < g)
EntryAnswer m s cells enrolled t v g x (Err f) = NamesRefusing m s cells t v 0 x f

module _ {C : Type 0} (m : Model C) (s : Shape) (cells : List C) (d : C) (enrolled t v : ℕ) where
  -- what the list has for key x: the key, with the low and high that a range of it alone has
  abbrev pub entry_of : ℕ → Listed
  entry_of x = record { key = x; low = range_low m s cells d enrolled t v x x; high = range_high m s cells d t v x x }

  -- the list for threshold g asks the node of key x at level k: the key is enrolled, and its nodes above have high g or more
  pub record Asked (g k x : ℕ) : Type 0 where
    pub level : k ≤ s.bits
    pub known : x < enrolled
    pub above : (j : ℕ) → k < j → j ≤ s.bits → g ≤ high_at m s cells d t v x j

  -- what was found is the list for threshold g, in order, and no cell that it asks refuses
  pub record Lists (g : ℕ) (found : List Listed) : Type 0 where
    pub named : found ≡ map entry_of (listed_keys m s cells d t v enrolled g)
    pub willing : (k x : ℕ) → Asked g k x → Willing m s cells d t v x k

-- the list for threshold g is found, with no more keys than are enrolled, or a cell that it asks refuses and is named
abbrev pub ListAnswer : {C : Type 0} → Model C → Shape → List C → (enrolled t v g : ℕ) → Result (ArrayVec Listed) CellFault → Type 0
ListAnswer {C} m s cells enrolled t v g (Ok found) = (length found.items ≤ enrolled) × ((d : C) → Lists m s cells d enrolled t v g found.items)
ListAnswer {C} m s cells enrolled t v g (Err f) =
    (x : ℕ) × ((d : C) → Asked m s cells d enrolled t v g f.level x) × NamesRefusing m s cells t v f.level (node_of f.level x) f

-- the answer of a call that puts what it finds into a vector lent to it: that vector, or the refusal
abbrev pub with_found : ArrayVec Listed → Result (Unit {0}) CellFault → Result (ArrayVec Listed) CellFault
with_found found (Ok done) = Ok found
with_found found (Err f) = Err f
