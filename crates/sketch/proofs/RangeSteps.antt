-- The levels of a key range, one after another.
use Rattle.std.proofs.Common.{◌≡◌, ℕ, ◌+◌, ◌*◌, ◌/◌, ◌≤◌, true, List, [], ◌∷◌, length, Ok, sym, subst, arith}
use Rattle.std.specs.List.{AllByRecursion, sum_by}
use Rattle.std.proofs.lemmas.List.Sums.{sum_by-cons}
use Rattle.window.specs.Meaning.{Model}
use Rattle.sketch.specs.Extremes.{sum_below}
use Rattle.sketch.specs.Layout.{Shape}
use Rattle.sketch.specs.Pieces.{is_piece, odd_ends, over_level}
use Rattle.sketch.specs.Nodes.{node_low, node_high}
use Rattle.sketch.specs.Answers.{refusing_cells, NodeAnswer, RangeAnswer}
use Rattle.sketch.proofs.Walk.{Walked, walked_more, summed_more, ends_are_pieces, few_ends}

-- low, high and willingness, as far as the levels below k say; each level adds two numbers of 32 bits at most
pub record Ranged {C : Type 0} (m : Model C) (s : Shape) (cells : List C) (enrolled t v a b k lo hi low high : ℕ) : Type 0 where
  pub walked : Walked s.bits a b k lo hi
  pub low_small : low ≤ 8589934590 * k
  pub high_small : high ≤ 8589934590 * k
  pub low_is : (d : C) → low ≡ sum_below (over_level s.bits a b (node_low m s cells d enrolled t v)) k
  pub high_is : (d : C) → high ≡ sum_below (over_level s.bits a b (node_high m s cells d t v)) k
  pub willing : (d : C) → sum_below (over_level s.bits a b (refusing_cells m s cells d t v)) k ≡ 0

-- the same as far as the levels up to k say, but for those pieces of level k that are left
pub record Ending {C : Type 0} (m : Model C) (s : Shape) (cells : List C) (enrolled t v a b k lo hi low high : ℕ) (left : List ℕ) : Type 0 where
  pub walked : Walked s.bits a b k lo hi
  pub pieces : AllByRecursion (λ i. is_piece s.bits a b k i ≡ true) left
  pub low_small : low + 4294967295 * length left ≤ 8589934590 * (k + 1)
  pub high_small : high + 4294967295 * length left ≤ 8589934590 * (k + 1)
  pub low_is : (d : C) → low + sum_by (node_low m s cells d enrolled t v k) left ≡ sum_below (over_level s.bits a b (node_low m s cells d enrolled t v)) (k + 1)
  pub high_is : (d : C) → high + sum_by (node_high m s cells d t v k) left ≡ sum_below (over_level s.bits a b (node_high m s cells d t v)) (k + 1)
  pub willing : (d : C) → sum_by (refusing_cells m s cells d t v k) left ≡ sum_below (over_level s.bits a b (refusing_cells m s cells d t v)) (k + 1)

module _ {C : Type 0} (m : Model C) (s : Shape) (cells : List C) (enrolled t v a b : ℕ) where
  module _ (k lo hi low high : ℕ) where
    -- all pieces of the level are left
    pub ending_none : k ≤ s.bits → Ranged m s cells enrolled t v a b k lo hi low high → Ending m s cells enrolled t v a b k lo hi low high (odd_ends lo hi)
    ending_none kb w =
        let few = few_ends lo hi in
        record {
          walked = w.walked;
          pieces = ends_are_pieces s.bits a b k lo hi w.walked;
          low_small = omega (arith, w.low_small);
          high_small = omega (arith, w.high_small);
          low_is = λ d. omega (arith, w.low_is d, summed_more s.bits a b (node_low m s cells d enrolled t v) k lo hi w.walked kb);
          high_is = λ d. omega (arith, w.high_is d, summed_more s.bits a b (node_high m s cells d t v) k lo hi w.walked kb);
          willing = λ d. omega (arith, w.willing d, summed_more s.bits a b (refusing_cells m s cells d t v) k lo hi w.walked kb);
        }

    -- one piece more is taken in
    pub ending_more : (node least most : ℕ) (left left' : List ℕ) → least ≤ 4294967295 → most ≤ 4294967295 → left ≡ node ∷ left'
        → NodeAnswer m s cells enrolled t v k node (Ok (least, most)) → Ending m s cells enrolled t v a b k lo hi low high left → Ending m s cells enrolled t v a b k lo hi (low + least) (high + most) left'
    ending_more node least most left left' la lb here answered w =
        let w' = subst (Ending m s cells enrolled t v a b k lo hi low high) here w in
        record {
          walked = w'.walked;
          pieces = w'.pieces.1;
          low_small = omega (arith, w'.low_small);
          high_small = omega (arith, w'.high_small);
          low_is = λ d. omega (arith, w'.low_is d, (answered d).1, sum_by-cons (node_low m s cells d enrolled t v k) node left');
          high_is = λ d. omega (arith, w'.high_is d, (answered d).2, sum_by-cons (node_high m s cells d t v k) node left');
          willing = λ d. omega (arith, w'.willing d, (answered d).0, sum_by-cons (refusing_cells m s cells d t v k) node left');
        }

    -- none is left, and the ends of the level above are these
    pub ending_all : (lo' hi' : ℕ) (left : List ℕ) → lo' ≡ (lo + 1) / 2 → hi' ≡ hi / 2 → length left ≡ 0 → Ending m s cells enrolled t v a b k lo hi low high left → Ranged m s cells enrolled t v a b (k + 1) lo' hi' low high
    ending_all lo' hi' [] first last none w = record {
      walked = rw (first, last) (walked_more s.bits a b k lo hi w.walked);
      low_small = omega (arith, w.low_small);
      high_small = omega (arith, w.high_small);
      low_is = λ d. omega (arith, w.low_is d);
      high_is = λ d. omega (arith, w.high_is d);
      willing = λ d. sym (w.willing d);
    }
    ending_all lo' hi' (i ∷ left) first last none w = absurd (omega arith)

  -- all levels are taken in
  pub ranged_all : (k lo hi low high : ℕ) → k ≡ s.bits + 1 → Ranged m s cells enrolled t v a b k lo hi low high → RangeAnswer m s cells enrolled t v a b (Ok (low, high))
  ranged_all k lo hi low high all w d =
      let w' = subst (λ k. Ranged m s cells enrolled t v a b k lo hi low high) all w in
      (w'.willing d, w'.low_is d, w'.high_is d)
