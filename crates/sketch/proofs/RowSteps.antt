-- The rows of a node, one after another.
use Rattle.std.proofs.Common.{◌≡◌, ℕ, ◌+◌, ◌-◌, ◌*◌, ◌^◌, ◌<◌, ◌≤◌, min, max, Bool, true, false, cond, not, ◌&&◌, eqb, List, [], ◌∷◌, ◌++◌, length, get_or, drop, Ok, sym, refl, ap, ◌∙◌, subst, subst₂, ⊎_elim, mul-le-mul_right, arith, pow_mono}
use native.Mathlib.Nat.{mul-div_left}
use Rattle.std.proofs.lemmas.List.{length-append, get_or_push, drop_more}
use Rattle.std.proofs.Math.ListN.{get_or-append}
use Rattle.std.proofs.lemmas.Grind.{div_ceil_times}
use Rattle.std.specs.Int.{div_ceil}
use Rattle.arrayvec.specs.ArrayVec.{ArrayVec}
use Rattle.std.proofs.lemmas.Bool.{cond-true, cond-false, cond_both, cases_Bool, cases_eq, cases_lt, ne_eqb, eq-eqb, and_right, and_parts, and_from, ltb-true, lt-ltb, both_ways, not_from_true, not_from_false}
use Rattle.std.proofs.lemmas.Nat.{pow_pos}
use Rattle.window.specs.Below.{any_below}
use Rattle.window.specs.Meaning.{Model}
use Rattle.window.proofs.Bounded.{any_from, any_at}
use Rattle.sketch.specs.Extremes.{sum_below, least_below, most_below}
use Rattle.sketch.specs.Layout.{Shape, nodes, node_of, column}
use Rattle.sketch.specs.Nodes.{covers_enrolled, shares, clear, clear_low, largest_clear, cell_of}
use Rattle.sketch.specs.Answers.{refuses_count, CellCounted, RowsAnswer, NodeAnswer}
use Rattle.sketch.proofs.Partition.{node_below}
use Rattle.sketch.proofs.Sums.{sum_more, most_same, most_more, least_more}

-- how many nodes of level k cover an enrolled key
abbrev pub covering : ℕ → ℕ → ℕ
covering enrolled k = div_ceil enrolled (2 ^ k)

covering_covers : (enrolled k j : ℕ) → j < covering enrolled k → covers_enrolled enrolled k j ≡ true
covering_covers enrolled k j l =
    let up : j + 1 ≤ covering enrolled k = omega arith in
    let least = mul-le-mul_right (2 ^ k) up in
    let bounds = div_ceil_times enrolled (2 ^ k) (pow_pos k) in
    lt-ltb (j * 2 ^ k) enrolled (omega arith)

covers_covering : (enrolled k j : ℕ) → covers_enrolled enrolled k j ≡ true → j < covering enrolled k
covers_covering enrolled k j e =
    ⊎_elim
    (λ (l : j < covering enrolled k). l)
    (λ (l : covering enrolled k ≤ j).
    let most = mul-le-mul_right (2 ^ k) l in
    let bounds = div_ceil_times enrolled (2 ^ k) (pow_pos k) in
    absurd (omega (arith, ltb-true (j * 2 ^ k) enrolled e)))
    (cases_lt j (covering enrolled k))

-- they are nodes of the level
covering_below : (bits enrolled k j : ℕ) → k ≤ bits → enrolled ≤ 2 ^ bits → j < covering enrolled k → j < nodes bits k
covering_below bits enrolled k j kb room l =
    let first = ltb-true (j * 2 ^ k) enrolled (covering_covers enrolled k j l) in
    let own : node_of k (j * 2 ^ k) ≡ j = mul-div_left j (pow_pos k) in
    subst (λ n. n < nodes bits k) own (node_below bits 0 0 (j * 2 ^ k) k (omega arith) kb)

pub covering_key : (bits enrolled k j : ℕ) → k ≤ bits → enrolled ≤ 2 ^ bits → j < covering enrolled k → j < 2 ^ bits
covering_key bits enrolled k j kb room l =
    let few : 2 ^ (bits - k) ≤ 2 ^ bits = let up : bits - k ≤ bits = omega arith in pow_mono up in
    omega (arith, covering_below bits enrolled k j kb room l)

-- another node has the column of i in row r
abbrev pub same_column : Shape → ℕ → ℕ → ℕ → ℕ → Bool
same_column s k r i j = not (eqb j i) && eqb (column s k r j) (column s k r i)

-- a test of two columns says so
pub columns_same : (s : Shape) (k r i j own col : ℕ) → own ≡ column s k r i → col ≡ column s k r j → (j ≡ i → ⊥) → col ≡ own → same_column s k r i j ≡ true
columns_same s k r i j own col e e' other same = and_from (not (eqb j i)) (eqb (column s k r j) (column s k r i)) (not_from_false (eqb j i) (ne_eqb j i other)) (eq-eqb (column s k r j) (column s k r i) (sym e' ∙ same ∙ e))

-- a node does not share its column with itself, nor with a node of another column
pub columns_own : (s : Shape) (k r i j : ℕ) → j ≡ i → same_column s k r i j ≡ false
columns_own s k r i j same = ap (λ n. not n && eqb (column s k r j) (column s k r i)) (eq-eqb j i same)

pub columns_apart : (s : Shape) (k r i j own col : ℕ) → own ≡ column s k r i → col ≡ column s k r j → (col ≡ own → ⊥) → same_column s k r i j ≡ false
columns_apart s k r i j own col e e' other =
    ap (λ n. not (eqb j i) && n) (ne_eqb (column s k r j) (column s k r i) (λ same. other (e' ∙ same ∙ sym e))) ∙ and_right (not (eqb j i)) false refl

module _ (s : Shape) (enrolled k r i : ℕ) where
  -- one that covers an enrolled key leaves the row not clear
  pub not_clear : (j : ℕ) → k ≤ s.bits → enrolled ≤ 2 ^ s.bits → j < covering enrolled k → same_column s k r i j ≡ true → clear s enrolled k i r ≡ false
  not_clear j kb room jc e =
      let jn = covering_below s.bits enrolled k j kb room jc in
      let parts = and_parts (not (eqb j i)) (eqb (column s k r j) (column s k r i)) e in
      let shared : shares s enrolled k r i j ≡ true = and_from (not (eqb j i)) (covers_enrolled enrolled k j && eqb (column s k r j) (column s k r i)) parts.0 (and_from (covers_enrolled enrolled k j) (eqb (column s k r j) (column s k r i)) (covering_covers enrolled k j jc) parts.1) in
      not_from_true (any_below (shares s enrolled k r i) (nodes s.bits k)) (any_from (shares s enrolled k r i) (nodes s.bits k) j jn shared)

  -- where none does, the row is clear
  pub is_clear : any_below (same_column s k r i) (covering enrolled k) ≡ false → clear s enrolled k i r ≡ true
  is_clear none =
      ⊎_elim
      (λ (e : any_below (shares s enrolled k r i) (nodes s.bits k) ≡ true).
      let w = any_at (shares s enrolled k r i) (nodes s.bits k) e in
      let j : ℕ = w.0 in
      let parts = and_parts (not (eqb j i)) (covers_enrolled enrolled k j && eqb (column s k r j) (column s k r i)) w.2 in
      let both = and_parts (covers_enrolled enrolled k j) (eqb (column s k r j) (column s k r i)) parts.1 in
      let same : same_column s k r i j ≡ true = and_from (not (eqb j i)) (eqb (column s k r j) (column s k r i)) parts.0 both.1 in
      absurd (both_ways (any_below (same_column s k r i) (covering enrolled k)) none (any_from (same_column s k r i) (covering enrolled k) j (covers_covering enrolled k j both.0) same)))
      (λ (e : any_below (shares s enrolled k r i) (nodes s.bits k) ≡ false). not_from_false (any_below (shares s enrolled k r i) (nodes s.bits k)) e)
      (cases_Bool (any_below (shares s enrolled k r i) (nodes s.bits k)))

-- lows, high and willingness, as far as the rows below r say
pub record Rows {C : Type 0} (m : Model C) (s : Shape) (cells : List C) (t v k i r : ℕ) (lows : List ℕ) (high : ℕ) : Type 0 where
  pub long : length lows ≡ r
  pub lows_are : (d : C) (q : ℕ) → q < r → get_or lows q 0 ≡ m.low (cell_of s cells d k i q) t v
  pub high_first : r ≡ 0 → high ≡ 4294967295
  pub high_is : (d : C) → 0 < r → high ≡ least_below (λ r. m.high (cell_of s cells d k i r) t v) r
  pub willing : (d : C) → sum_below (λ r. cond (refuses_count m (cell_of s cells d k i r) t v) 1 0) r ≡ 0

module _ {C : Type 0} (m : Model C) (s : Shape) (cells : List C) (t v k i : ℕ) where
  module _ (r : ℕ) (lows : List ℕ) (high least most : ℕ) (rows : Rows m s cells t v k i r lows high) (fits : most ≤ 4294967295)
      (counted : CellCounted m s cells k r (column s k r i) t v (Ok (least, most))) where
    lows_more : (d : C) (q : ℕ) → q < r + 1 → get_or (lows ++ least ∷ []) q 0 ≡ m.low (cell_of s cells d k i q) t v
    lows_more d q l =
        ⊎_elim
        (λ (e : q ≡ r). rw e (get_or_push lows least 0 r rows.long ∙ (counted d).1))
        (λ (ne : q ≡ r → ⊥). get_or-append lows (least ∷ []) 0 q (omega (arith, rows.long)) ∙ rows.lows_are d q (omega arith))
        (cases_eq q r)

    high_more : (d : C) → min high most ≡ least_below (λ r. m.high (cell_of s cells d k i r) t v) (r + 1)
    high_more d =
        ⊎_elim
        (λ (e : r ≡ 0).
        let one : least_below (λ r. m.high (cell_of s cells d k i r) t v) (r + 1) ≡ m.high (cell_of s cells d k i r) t v = rw e refl in
        omega (arith, rows.high_first e, (counted d).2))
        (λ (ne : r ≡ 0 → ⊥).
        let pos : 0 < r = omega arith in
        omega (arith, (counted d).2, rows.high_is d pos, least_more (λ r. m.high (cell_of s cells d k i r) t v) r pos))
        (cases_eq r 0)

    willing_more : (d : C) → sum_below (λ r. cond (refuses_count m (cell_of s cells d k i r) t v) 1 0) (r + 1) ≡ 0
    willing_more d =
        omega (arith, sum_more (λ r. cond (refuses_count m (cell_of s cells d k i r) t v) 1 0) r, rows.willing d, cond-false {A = ℕ} (refuses_count m (cell_of s cells d k i r) t v) 1 0 (counted d).0)

    pub rows_more : (lows' : List ℕ) (high' : ℕ) → lows' ≡ lows ++ least ∷ [] → high' ≡ min high most → Rows m s cells t v k i (r + 1) lows' high'
    rows_more lows' high' pushed lower =
        subst₂ (Rows m s cells t v k i (r + 1)) (sym pushed) (sym lower) (record { long = simp length-append (omega (arith, rows.long)); lows_are = lows_more; high_first = λ e. absurd (omega arith); high_is = λ d _. high_more d; willing = willing_more })

  -- all rows are read
  pub rows_all : (r : ℕ) (lows : ArrayVec ℕ) (high : ℕ) → 0 < s.rows → r ≡ s.rows → Rows m s cells t v k i r lows.items high → RowsAnswer m s cells t v k i (Ok (lows, high))
  rows_all r lows high some all so_far =
      let rows = subst (λ r. Rows m s cells t v k i r lows.items high) all so_far in
      (rows.long, λ d. (rows.willing d, rows.lows_are d, rows.high_is d some))

  -- with the largest low at a clear row the lows and the high of the rows are the answer on the node
  pub node_from_rows : (enrolled low : ℕ) (lows : ArrayVec ℕ) (high : ℕ) → low ≡ largest_clear s enrolled k i lows.items → RowsAnswer m s cells t v k i (Ok (lows, high)) → NodeAnswer m s cells enrolled t v k i (Ok (low, high))
  node_from_rows enrolled low lows high e rows d = (
    (rows.1 d).0,
    e ∙ most_same (λ r. cond (clear s enrolled k i r) (get_or lows.items r 0) 0) (clear_low m s cells d enrolled t v k i) s.rows (λ r l. ap (λ n. cond (clear s enrolled k i r) n 0) ((rows.1 d).1 r l)),
    (rows.1 d).2,
  )

-- the largest low at a clear row, one row after another
module _ (s : Shape) (enrolled k i : ℕ) (lows : List ℕ) where
  -- the low of a row where it is clear, and 0 where it is not
  abbrev pub at_clear : ℕ → ℕ
  at_clear r = cond (clear s enrolled k i r) (get_or lows r 0) 0

  -- the rows below r are looked at: those from r on are left, each with its low
  pub record Scanned (r end : ℕ) (rest : List ℕ) (low : ℕ) : Type 0 where
    pub last : end ≡ s.rows
    pub up_to : r ≤ end
    pub rest_is : rest ≡ drop r lows
    pub low_is : low ≡ most_below at_clear r

  -- one row more is taken
  module _ (r r' end end' row low least : ℕ) (rest rest' : List ℕ) (long : length lows ≡ s.rows) (so_far : Scanned r end rest low)
      (step : (end' ≡ end × (0 < end - r × row ≡ r × r' ≡ r + 1)) × rest ≡ least ∷ rest') where
    pub row_within : row < s.rows
    row_within = omega (arith, so_far.last)

    taken : (least ≡ get_or lows row 0) × (rest' ≡ drop r' lows)
    taken =
        let here = drop_more lows r 0 (omega (arith, so_far.last)) in
        let all = so_far.rest_is in
        let at : row ≡ r = step.0.1.1 in
        let next : r' ≡ r + 1 = step.0.1.2 in
        (cc, cc)

    scanned : (low' : ℕ) → low' ≡ max low (at_clear row) → Scanned r' end' rest' low'
    scanned low' e = record {
      last = omega (arith, so_far.last);
      up_to = omega arith;
      rest_is = taken.1;
      low_is = let next : r' ≡ row + 1 = omega arith in rw next (omega (arith, most_more at_clear row, ap (most_below at_clear) step.0.1.1, so_far.low_is));
    }

    -- it cannot raise the low
    pub scanned_skipped : least ≤ low → Scanned r' end' rest' low
    scanned_skipped h =
        let small : at_clear row ≤ low = cond_both (clear s enrolled k i row) (get_or lows row 0) 0 (λ x. x ≤ low) (λ _. omega (arith, taken.0)) (λ _. omega arith) in
        scanned low (omega arith)

    -- it is not clear
    pub scanned_shared : clear s enrolled k i row ≡ false → Scanned r' end' rest' low
    scanned_shared e = scanned low (omega (arith, cond-false (clear s enrolled k i row) (get_or lows row 0) 0 e))

    -- it is clear, and raises the low
    pub scanned_raised : clear s enrolled k i row ≡ true → low < least → Scanned r' end' rest' least
    scanned_raised e h = scanned least (omega (arith, taken.0, cond-true (clear s enrolled k i row) (get_or lows row 0) 0 e))
