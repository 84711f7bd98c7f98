-- A node's live plays lie from its low to its high, and both are near, where the cells stand for the plays.
use Rattle.std.proofs.Common.{◌≡◌, ℕ, zero, suc, ◌+◌, ◌-◌, ◌*◌, ◌/◌, ◌%◌, ◌^◌, ◌<◌, ◌≤◌, Bool, true, false, cond, not, ◌&&◌, eqb, ltb, List, map, get_or, filter, ap, ⊎_elim, mul-le-mul_left, div-mul-le_self, arith}
use native.Mathlib.Nat.{mul-sub}
use Rattle.std.specs.List.{AllByRecursion}
use Rattle.std.proofs.lemmas.Bool.{cases_Bool, and_parts, and_from, lt-ltb, eqb-true, eq-eqb, both_ways, not-true, not_from_false, cond_both, cond-true}
use Rattle.std.proofs.ByRecursion.{all_kept_by, All-map}
use Rattle.std.proofs.lemmas.Nat.{pow_pos, xor_lt}
use Rattle.window.specs.Below.{any_below}
use Rattle.window.specs.Stamps.{is_live, live_count}
use Rattle.window.specs.Meaning.{Model, Keeps, Permitted}
use Rattle.window.proofs.Bounded.{any_from, any_at}
use Rattle.sketch.specs.Layout.{Shape, Sound, width, nodes, node_of, mixed, column}
use Rattle.sketch.specs.Plays.{KeyedPlay, count_of_node, row_count, least_row_count, stamps_of}
use Rattle.sketch.specs.Nodes.{shares, clear, clear_piece, cell_of, clear_low, node_low, node_high}
use Rattle.sketch.specs.Laws.{Cell, Faithful, Heard, NodeHolds, clear_count}
use Rattle.sketch.proofs.Sums.{least_le, least_from, most_ge, most_le}
use Rattle.sketch.proofs.Weaker.{countBy_weaker, live_kept, last_le}
use Rattle.sketch.proofs.Partition.{node_below}

-- a column is one of its row's
mixed_below : (words : List ℕ) (c p n i : ℕ) → ((q : ℕ) → get_or words q 0 < 2 ^ c) → mixed words p n i < 2 ^ c
mixed_below words c p zero i h = pow_pos c
mixed_below words c p (suc n) i h =
    xor_lt c (mixed words p n i) (cond (eqb (i / 2 ^ n % 2) 1) (get_or words (p + n) 0) 0) (mixed_below words c p n i h)
    (cond_both (eqb (i / 2 ^ n % 2) 1) (get_or words (p + n) 0) 0 (λ x. x < 2 ^ c) (λ e. h (p + n)) (λ e. pow_pos c))

pub column_below : (s : Shape) → Sound s → (k r i : ℕ) → column s k r i < width s
column_below s h k r i = mixed_below s.words s.spread ((k * s.rows + r) * s.bits) s.bits i h.words_fit

-- from a counter's own rule: high is near low
near : (f h l : ℕ) → f * (h - l) ≤ l → f * h ≤ (f + 1) * l
near f h l e = omega (arith, mul-sub f h l)

module _ {C : Type 0} (m : Model C) (keeps : Keeps m) (s : Shape) (sound : Sound s) (cells : List C) (d : C) (enrolled clock : ℕ) (plays : List KeyedPlay) (faithful : Faithful m s cells plays) (heard : Heard s enrolled clock plays) (t v : ℕ) (permitted : Permitted clock s.window t v) where
  module _ (k i r : ℕ) (kb : k ≤ s.bits) (rb : r < s.rows) where
    own : Cell m s (cell_of s cells d k i r) (stamps_of s plays k r (column s k r i))
    own = faithful d k r (column s k r i) kb rb (column_below s sound k r i)

    -- the cell may be asked
    pub asked : Permitted (m.last (cell_of s cells d k i r)) (m.window (cell_of s cells d k i r)) t v
    asked =
        let same : KeyedPlay → Bool = λ p. eqb (column s k r (node_of k p.key)) (column s k r i) in
        let ps : List KeyedPlay = filter same plays in
        let past : AllByRecursion (λ x. x ≤ clock) (map (λ p. p.stamp) ps) = All-map (λ x. x ≤ clock) (λ p. p.stamp) ps (all_kept_by same (λ p. p.stamp ≤ clock) plays heard.past) in
        let e = keeps.list_ends_with_last (cell_of s cells d k i r) (stamps_of s plays k r (column s k r i)) own.stands in
        let l = last_le clock 0 (map (λ p. p.stamp) ps) (omega arith) past in
        record { in_time = omega (arith, permitted.in_time); some = permitted.some; within = omega (arith, own.window, permitted.within) }

    row_counts : live_count t v (stamps_of s plays k r (column s k r i)) ≡ row_count s plays t v k i r
    row_counts = live_kept t v (λ p. p.stamp) (λ p. eqb (column s k r (node_of k p.key)) (column s k r i)) plays

    row_above : m.low (cell_of s cells d k i r) t v ≤ row_count s plays t v k i r
    row_above = omega (arith, row_counts, (keeps.count_lies_between (cell_of s cells d k i r) t v asked (stamps_of s plays k r (column s k r i)) own.stands).0)

    row_below : row_count s plays t v k i r ≤ m.high (cell_of s cells d k i r) t v
    row_below = omega (arith, row_counts, (keeps.count_lies_between (cell_of s cells d k i r) t v asked (stamps_of s plays k r (column s k r i)) own.stands).1)

    row_near : s.fineness * m.high (cell_of s cells d k i r) t v ≤ (s.fineness + 1) * m.low (cell_of s cells d k i r) t v
    row_near = near s.fineness (m.high (cell_of s cells d k i r) t v) (m.low (cell_of s cells d k i r) t v) (rw own.fineness at (keeps.estimates_near (cell_of s cells d k i r) t v asked))

    abbrev same_node : KeyedPlay → Bool
    same_node p = is_live t v p.stamp && eqb (node_of k p.key) i

    abbrev same_column : KeyedPlay → Bool
    same_column p = is_live t v p.stamp && eqb (column s k r (node_of k p.key)) (column s k r i)

    -- a row counts each play of the node
    node_in_row : count_of_node plays k i t v ≤ row_count s plays t v k i r
    node_in_row =
        let test : (p : KeyedPlay) → p.key < enrolled → same_node p ≡ true → same_column p ≡ true =
        λ p known e. let j : ℕ = node_of k p.key in
        let parts = and_parts (is_live t v p.stamp) (eqb j i) e in
        and_from (is_live t v p.stamp) (eqb (column s k r j) (column s k r i)) parts.0 (eq-eqb (column s k r j) (column s k r i) (ap (column s k r) (eqb-true j i parts.1))) in
        countBy_weaker (λ p. p.key < enrolled) same_node same_column plays heard.known test

    -- in a clear row, an enrolled key whose node has the column is of the node
    alone : clear s enrolled k i r ≡ true → (x : ℕ) → x < enrolled → column s k r (node_of k x) ≡ column s k r i → eqb (node_of k x) i ≡ true
    alone h x known same =
        let j : ℕ = node_of k x in
        let none : any_below (shares s enrolled k r i) (nodes s.bits k) ≡ false = not-true (any_below (shares s enrolled k r i) (nodes s.bits k)) h in
        let there : j < nodes s.bits k = node_below s.bits 0 0 x k (omega (arith, heard.room)) kb in
        let covers : ltb (j * 2 ^ k) enrolled ≡ true = lt-ltb (j * 2 ^ k) enrolled (omega (arith, div-mul-le_self x (2 ^ k))) in
        ⊎_elim
        (λ (e : eqb j i ≡ true). e)
        (λ (e : eqb j i ≡ false).
        let shared : shares s enrolled k r i j ≡ true = and_from (not (eqb j i)) (ltb (j * 2 ^ k) enrolled && eqb (column s k r j) (column s k r i)) (not_from_false (eqb j i) e) (and_from (ltb (j * 2 ^ k) enrolled) (eqb (column s k r j) (column s k r i)) covers (eq-eqb (column s k r j) (column s k r i) same)) in
        absurd (both_ways (any_below (shares s enrolled k r i) (nodes s.bits k)) none (any_from (shares s enrolled k r i) (nodes s.bits k) j there shared)))
        (cases_Bool (eqb j i))

    -- and no play of another is counted
    row_in_node : clear s enrolled k i r ≡ true → row_count s plays t v k i r ≤ count_of_node plays k i t v
    row_in_node h =
        let test : (p : KeyedPlay) → p.key < enrolled → same_column p ≡ true → same_node p ≡ true =
        λ p known e. let j : ℕ = node_of k p.key in
        let parts = and_parts (is_live t v p.stamp) (eqb (column s k r j) (column s k r i)) e in
        and_from (is_live t v p.stamp) (eqb j i) parts.0 (alone h p.key known (eqb-true (column s k r j) (column s k r i) parts.1)) in
        countBy_weaker (λ p. p.key < enrolled) same_column same_node plays heard.known test

  module _ (k i : ℕ) (kb : k ≤ s.bits) where
    abbrev lows : ℕ → ℕ
    lows r = clear_low m s cells d enrolled t v k i r

    pub node_below_high : count_of_node plays k i t v ≤ node_high m s cells d t v k i
    node_below_high =
        least_from (λ h. count_of_node plays k i t v ≤ h) (λ r. m.high (cell_of s cells d k i r) t v) s.rows sound.some_row
        (λ r rb. omega (arith, node_in_row k i r kb rb, row_below k i r kb rb))

    pub node_above_low : node_low m s cells d enrolled t v k i ≤ count_of_node plays k i t v
    node_above_low =
        most_le lows s.rows (count_of_node plays k i t v)
        (λ r rb. cond_both (clear s enrolled k i r) (m.low (cell_of s cells d k i r) t v) 0 (λ x. x ≤ count_of_node plays k i t v)
        (λ h. omega (arith, row_above k i r kb rb, row_in_node k i r kb rb h)) (λ h. omega arith))

    -- high is near what the rows hold
    pub node_high_near : s.fineness * node_high m s cells d t v k i ≤ (s.fineness + 1) * least_row_count s plays t v k i
    node_high_near =
        least_from (λ x. s.fineness * node_high m s cells d t v k i ≤ (s.fineness + 1) * x) (row_count s plays t v k i) s.rows sound.some_row
        (λ r rb.
        let one = mul-le-mul_left s.fineness (least_le (λ r. m.high (cell_of s cells d k i r) t v) s.rows r rb) in
        let two = mul-le-mul_left (s.fineness + 1) (row_above k i r kb rb) in
        omega (arith, row_near k i r kb rb))

    clear_near : clear_piece s enrolled k i ≡ true → s.fineness * count_of_node plays k i t v ≤ (s.fineness + 1) * node_low m s cells d enrolled t v k i
    clear_near h =
        let w = any_at (clear s enrolled k i) s.rows h in
        let r : ℕ = w.0 in
        let rb : r < s.rows = w.1 in
        let e = cond-true (clear s enrolled k i r) (m.low (cell_of s cells d k i r) t v) 0 w.2 in
        let l : m.low (cell_of s cells d k i r) t v ≤ node_low m s cells d enrolled t v k i = omega (arith, e, most_ge lows s.rows r rb) in
        let one = mul-le-mul_left (s.fineness + 1) l in
        let c : count_of_node plays k i t v ≤ m.high (cell_of s cells d k i r) t v = omega (arith, node_in_row k i r kb rb, row_below k i r kb rb) in
        let two = mul-le-mul_left s.fineness c in
        omega (arith, row_near k i r kb rb)

    -- low is near what a node with a clear row holds
    pub node_low_near : s.fineness * clear_count s enrolled plays t v k i ≤ (s.fineness + 1) * node_low m s cells d enrolled t v k i
    node_low_near =
        cond_both (clear_piece s enrolled k i) (count_of_node plays k i t v) 0 (λ x. s.fineness * x ≤ (s.fineness + 1) * node_low m s cells d enrolled t v k i) clear_near (λ _. omega arith)

    pub node_holds : NodeHolds s enrolled plays t v k i (node_low m s cells d enrolled t v k i) (node_high m s cells d t v k i)
    node_holds = record { above_low = node_above_low; below_high = node_below_high; high_near = node_high_near; low_near = node_low_near }
