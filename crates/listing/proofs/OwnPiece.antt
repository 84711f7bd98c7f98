-- A range of one key has one piece, the node of that key at level 0.
use Rattle.std.proofs.Common.{◌≡◌, ℕ, ◌+◌, ◌-◌, ◌/◌, ◌^◌, ◌<◌, ◌≤◌, true, false, cond, not, ◌||◌, eqb, leb, ap, ◌∙◌, ⊎_elim, arith, pow_mono}
use Rattle.std.proofs.lemmas.Bool.{cases_Bool, and_parts, and_from, and_left, or_right, not_from_false, le-leb, leb-true, cond-true, cond-false}
use Rattle.sketch.specs.Layout.{nodes, first_key, last_key}
use Rattle.sketch.specs.Pieces.{inside, is_piece, over_level, over_pieces}
use Rattle.sketch.proofs.Sums.{sum_none, sum_one}

-- no node of two keys or more lies in it
wide_outside : (x k i : ℕ) → 0 < k → inside x x k i ≡ false
wide_outside x k i pos =
    ⊎_elim
    (λ (e : inside x x k i ≡ true).
    let parts = and_parts (leb x (first_key k i)) (leb (last_key k i) x) e in
    let from = leb-true x (first_key k i) parts.0 in
    let to = leb-true (last_key k i) x parts.1 in
    let two : 2 ^ 1 ≤ 2 ^ k = pow_mono pos in
    absurd (omega arith))
    (λ (e : inside x x k i ≡ false). e)
    (cases_Bool (inside x x k i))

-- of the nodes of one key only that of the key itself
other_outside : (x i : ℕ) → (i ≡ x → ⊥) → inside x x 0 i ≡ false
other_outside x i ne =
    ⊎_elim
    (λ (e : inside x x 0 i ≡ true).
    let parts = and_parts (leb x (first_key 0 i)) (leb (last_key 0 i) x) e in
    let from = leb-true x (first_key 0 i) parts.0 in
    let to = leb-true (last_key 0 i) x parts.1 in
    let same : i ≡ x = omega arith in
    absurd (ne same))
    (λ (e : inside x x 0 i ≡ false). e)
    (cases_Bool (inside x x 0 i))

module _ (bits x : ℕ) (f : ℕ → ℕ → ℕ) where
  outside : (k i : ℕ) → inside x x k i ≡ false → cond (is_piece bits x x k i) (f k i) 0 ≡ 0
  outside k i e = cond-false (is_piece bits x x k i) (f k i) 0 (and_left (inside x x k i) (eqb k bits || not (inside x x (k + 1) (i / 2))) e)

  own_is_piece : is_piece bits x x 0 x ≡ true
  own_is_piece =
      and_from (inside x x 0 x) (eqb 0 bits || not (inside x x (0 + 1) (x / 2)))
      (and_from (leb x (first_key 0 x)) (leb (last_key 0 x) x) (le-leb x (first_key 0 x) (omega arith)) (le-leb (last_key 0 x) x (omega arith)))
      (or_right (eqb 0 bits) (not (inside x x (0 + 1) (x / 2))) (not_from_false (inside x x (0 + 1) (x / 2)) (wide_outside x (0 + 1) (x / 2) (omega arith))))

  -- a sum over the pieces of the range is what its key's own node gives
  pub own_piece : x < 2 ^ bits → over_pieces bits x x f ≡ f 0 x
  own_piece within =
      let e : bits - 0 ≡ bits = omega arith in
      let p = ap (λ n. 2 ^ n) e in
      let level = sum_one (over_level bits x x f) 0 (bits + 1) (omega arith) (λ k l ne. sum_none (λ i. cond (is_piece bits x x k i) (f k i) 0) (nodes bits k) (λ i _. outside k i (wide_outside x k i (omega arith)))) in
      let node = sum_one (λ i. cond (is_piece bits x x 0 i) (f 0 i) 0) x (nodes bits 0) (omega arith) (λ i _ ne. outside 0 i (other_outside x i ne)) in
      level ∙ node ∙ cond-true (is_piece bits x x 0 x) (f 0 x) 0 own_is_piece
