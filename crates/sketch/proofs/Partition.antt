-- Each key of a range lies in exactly one of its pieces, so counts over the pieces add up.
use Rattle.std.proofs.Common.{◌≡◌, ℕ, zero, suc, ◌+◌, ◌-◌, ◌*◌, ◌/◌, ◌^◌, ◌<◌, ◌≤◌, Bool, true, false, cond, not, ◌&&◌, ◌||◌, eqb, leb, List, [], ◌∷◌, count_by, sym, refl, ap, ◌∙◌, mul-le-mul_right, add-one, arith}
use native.Mathlib.Nat.{pow-succ'}
use Rattle.std.specs.List.{AllByRecursion}
use Rattle.std.proofs.lemmas.Bool.{and_parts, and_from, leb-true, le-leb, ne_eqb, eq-eqb, false≢true}
use Rattle.std.proofs.lemmas.Nat.{pow_pos, shr-shr, shr_below}
use Rattle.sketch.specs.Extremes.{sum_below}
use Rattle.sketch.specs.Layout.{nodes, node_of, first_key, last_key}
use Rattle.sketch.specs.Pieces.{inside, is_piece, over_level, over_pieces}
use Rattle.sketch.proofs.Sums.{sum_scaled, sum_same, sum_adds, sum_none, sum_one}
use Rattle.sketch.proofs.Weaker.{countBy_cons}

pub twice_pow : (k : ℕ) → 2 ^ (k + 1) ≡ 2 * 2 ^ k
twice_pow k = rw add-one (pow-succ' 2 k)

abbrev pub one : Bool → ℕ
one p = cond p 1 0

module _ (bits a b : ℕ) where
  kept_scaled : (p : Bool) (c d x y : ℕ) → c * x ≤ d * y → c * cond p x 0 ≤ d * cond p y 0
  kept_scaled true c d x y h = h
  kept_scaled false c d x y h = omega arith

  -- a sum over the pieces has the bound that each piece has
  pub over_scaled : (c d : ℕ) (f g : ℕ → ℕ → ℕ) → ((k i : ℕ) → k ≤ bits → i < nodes bits k → c * f k i ≤ d * g k i) → c * over_pieces bits a b f ≤ d * over_pieces bits a b g
  over_scaled c d f g h =
      sum_scaled c d (over_level bits a b f) (over_level bits a b g) (bits + 1)
      (λ k l. sum_scaled c d (λ i. cond (is_piece bits a b k i) (f k i) 0) (λ i. cond (is_piece bits a b k i) (g k i) 0) (nodes bits k)
      (λ i m. kept_scaled (is_piece bits a b k i) c d (f k i) (g k i) (h k i (omega arith) m)))

  kept_adds : (p : Bool) (z x y : ℕ) → z ≡ x + y → cond p z 0 ≡ cond p x 0 + cond p y 0
  kept_adds true z x y e = e
  kept_adds false z x y e = refl

  pub over_adds : (h f g : ℕ → ℕ → ℕ) → ((k i : ℕ) → h k i ≡ f k i + g k i) → over_pieces bits a b h ≡ over_pieces bits a b f + over_pieces bits a b g
  over_adds h f g e =
      sum_adds (over_level bits a b h) (over_level bits a b f) (over_level bits a b g) (bits + 1)
      (λ k l. sum_adds (λ i. cond (is_piece bits a b k i) (h k i) 0) (λ i. cond (is_piece bits a b k i) (f k i) 0) (λ i. cond (is_piece bits a b k i) (g k i) 0) (nodes bits k)
      (λ i l'. kept_adds (is_piece bits a b k i) (h k i) (f k i) (g k i) (e k i)))

  kept_none : (p : Bool) (x : ℕ) → x ≡ 0 → cond p x 0 ≡ 0
  kept_none true x e = e
  kept_none false x e = refl

  pub over_none : (f : ℕ → ℕ → ℕ) → ((k i : ℕ) → f k i ≡ 0) → over_pieces bits a b f ≡ 0
  over_none f e =
      sum_none (over_level bits a b f) (bits + 1)
      (λ k l. sum_none (λ i. cond (is_piece bits a b k i) (f k i) 0) (nodes bits k) (λ i m. kept_none (is_piece bits a b k i) (f k i) (e k i)))

  -- a node whose parent lies wholly in the range does so itself
  pub inside_parent : (k i : ℕ) → inside a b (k + 1) (i / 2) ≡ true → inside a b k i ≡ true
  inside_parent k i h =
      let parts = and_parts (leb a (first_key (k + 1) (i / 2))) (leb (last_key (k + 1) (i / 2)) b) h in
      let from = leb-true a (first_key (k + 1) (i / 2)) parts.0 in
      let to = leb-true (last_key (k + 1) (i / 2)) b parts.1 in
      let e = twice_pow k in
      let lo : 2 * (i / 2) ≤ i = omega arith in
      let hi : i + 1 ≤ 2 * (i / 2) + 2 = omega arith in
      let lo' = mul-le-mul_right (2 ^ k) lo in
      let hi' = mul-le-mul_right (2 ^ k) hi in
      let p = pow_pos k in
      let from' : a ≤ (i / 2) * (2 * 2 ^ k) = rw e at from in
      let to' : (i / 2 + 1) * (2 * 2 ^ k) - 1 ≤ b = rw e at to in
      and_from (leb a (first_key k i)) (leb (last_key k i) b) (le-leb a (first_key k i) (omega arith)) (le-leb (last_key k i) b (omega arith))

  -- the node of key x at level k lies wholly in the range
  abbrev node_in : ℕ → ℕ → Bool
  node_in x k = inside a b k (node_of k x)

  node_in_more : (x k : ℕ) → node_in x (suc k) ≡ inside a b (k + 1) (node_of k x / 2)
  node_in_more x k = ap (node_in x) (sym (add-one k)) ∙ ap (inside a b (k + 1)) (sym (shr-shr x k 1))

  split_one : (p q : Bool) → (q ≡ true → p ≡ true) → one (p && not q) + one q ≡ one p
  split_one true true h = refl
  split_one true false h = refl
  split_one false true h = absurd (false≢true (h refl))
  split_one false false h = refl

  below_top : (p q top : Bool) → top ≡ false → one (p && (top || not q)) ≡ one (p && not q)
  below_top p q top e = rw e refl

  at_top : (p q top : Bool) → top ≡ true → one (p && (top || q)) ≡ one p
  at_top true q top e = rw e refl
  at_top false q top e = refl

  -- the pieces of key x at the levels below n are the nodes that leave the range between one level and the next
  leaves : (x n : ℕ) → n ≤ bits → sum_below (λ k. one (is_piece bits a b k (node_of k x))) n + one (node_in x n) ≡ one (node_in x 0)
  leaves x zero l = omega arith
  leaves x (suc n) l =
      let q : Bool = inside a b (n + 1) (node_of n x / 2) in
      let s = split_one (node_in x n) q (inside_parent n (node_of n x)) in
      let u = below_top (node_in x n) q (eqb n bits) (ne_eqb n bits (λ e. omega arith)) in
      let w = ap one (node_in_more x n) in
      omega (arith, leaves x n (omega arith))

  pub node_below : (x k : ℕ) → x < 2 ^ bits → k ≤ bits → node_of k x < nodes bits k
  node_below x k h l = let e : bits - k + k ≡ bits = omega arith in shr_below x (bits - k) k (rw e h)

  -- a key of the range lies in one piece, and any other key in none
  pub key_once : (x : ℕ) → x < 2 ^ bits → over_pieces bits a b (λ k i. one (eqb (node_of k x) i)) ≡ one (leb a x && leb x b)
  key_once x h =
      let level : (k : ℕ) → k < bits + 1 → over_level bits a b (λ k i. one (eqb (node_of k x) i)) k ≡ one (is_piece bits a b k (node_of k x)) =
      λ k l. sum_one (λ i. cond (is_piece bits a b k i) (one (eqb (node_of k x) i)) 0) (node_of k x) (nodes bits k) (node_below x k h (omega arith))
      (λ i m ne. kept_none (is_piece bits a b k i) (one (eqb (node_of k x) i)) (ap one (ne_eqb (node_of k x) i (λ e. ne (sym e)))))
      ∙ ap (λ c. cond (is_piece bits a b k (node_of k x)) (one c) 0) (eq-eqb (node_of k x) (node_of k x) refl) in
      let all = sum_same (over_level bits a b (λ k i. one (eqb (node_of k x) i))) (λ k. one (is_piece bits a b k (node_of k x))) (bits + 1) level in
      let all' = all ∙ ap (sum_below (λ k. one (is_piece bits a b k (node_of k x)))) (add-one bits) in
      let top = at_top (node_in x bits) (not (inside a b (bits + 1) (node_of bits x / 2))) (eqb bits bits) (eq-eqb bits bits refl) in
      let here : x / 2 ^ 0 ≡ x = omega arith in
      let from : x / 2 ^ 0 * 2 ^ 0 ≡ x = omega arith in
      let to : (x / 2 ^ 0 + 1) * 2 ^ 0 - 1 ≡ x = omega arith in
      let bottom : node_in x 0 ≡ (leb a x && leb x b) = ap (λ y. leb a y && leb ((x / 2 ^ 0 + 1) * 2 ^ 0 - 1) b) from ∙ ap (λ y. leb a x && leb y b) to in
      let ends = ap one bottom in
      omega (arith, leaves x bits (omega arith))

-- the counts of the pieces add up to the count of the range
module _ {X : Type 0} (bits a b : ℕ) (passes : X → Bool) (key : X → ℕ) where
  one_play : (p : Bool) (x : ℕ) → x < 2 ^ bits → over_pieces bits a b (λ k i. one (p && eqb (node_of k x) i)) ≡ one (p && (leb a x && leb x b))
  one_play true x h = key_once bits a b x h
  one_play false x h = over_none bits a b (λ k i. 0) (λ k i. refl)

  pub pieces_add : (xs : List X) → AllByRecursion (λ x. key x < 2 ^ bits) xs → over_pieces bits a b (λ k i. count_by (λ x. passes x && eqb (node_of k (key x)) i) xs) ≡ count_by (λ x. passes x && (leb a (key x) && leb (key x) b)) xs
  pieces_add [] h = over_none bits a b (λ k i. 0) (λ k i. refl)
  pieces_add (x ∷ xs) h =
      let split = over_adds bits a b
      (λ k i. count_by (λ x. passes x && eqb (node_of k (key x)) i) (x ∷ xs))
      (λ k i. one (passes x && eqb (node_of k (key x)) i))
      (λ k i. count_by (λ x. passes x && eqb (node_of k (key x)) i) xs)
      (λ k i. countBy_cons (λ x. passes x && eqb (node_of k (key x)) i) x xs) in
      let here = one_play (passes x) (key x) h.0 in
      let rest = pieces_add xs h.1 in
      let sum = countBy_cons (λ x. passes x && (leb a (key x) && leb (key x) b)) x xs in
      omega arith
