-- The pieces of a level are at most two: the ends of the range, as they rise from level to level.
use Rattle.std.proofs.Common.{◌≡◌, ℕ, ◌+◌, ◌-◌, ◌*◌, ◌/◌, ◌%◌, ◌^◌, ◌<◌, ◌≤◌, Bool, true, false, cond, not, ◌&&◌, ◌||◌, eqb, ltb, leb, [], ◌∷◌, ◌++◌, length, sym, refl, ap, ◌∙◌, ⊎_elim, arith}
use Rattle.std.specs.List.{AllByRecursion, sum_by}
use Rattle.std.proofs.lemmas.List.Sums.{sum_by-cons}
use Rattle.std.proofs.lemmas.Bool.{cases_eq, cases_lt, and_parts, and_from, leb-true, le-leb, ltb-true, ne_eqb, eq-eqb}
use Rattle.std.proofs.lemmas.Bool.Decides.{nat_tests}
use Rattle.std.proofs.lemmas.Nat.{pow_pos}
use Rattle.sketch.specs.Extremes.{sum_below}
use Rattle.sketch.specs.Layout.{nodes, first_key, last_key}
use Rattle.sketch.specs.Pieces.{inside, is_piece, odd_ends, over_level}
use Rattle.sketch.proofs.Sums.{sum_adds, sum_none, sum_one, sum_more}
use Rattle.sketch.proofs.Weaker.{and_true}
use Rattle.sketch.proofs.Partition.{twice_pow}

-- of the nodes of level k those from lo on and below hi lie wholly in the range
pub record Ends (a b k lo hi : ℕ) : Type 0 where
  pub between : (i : ℕ) → inside a b k i ≡ (leb lo i && ltb i hi)

bool_same : (p q : Bool) → (p ≡ true → q ≡ true) → (q ≡ true → p ≡ true) → p ≡ q
bool_same true true h g = refl
bool_same true false h g = sym (h refl)
bool_same false true h g = g refl
bool_same false false h g = refl

-- a node lies wholly in the range when both its halves do
halves : (a b k j : ℕ) → inside a b (k + 1) j ≡ (inside a b k (2 * j) && inside a b k (2 * j + 1))
halves a b k j =
    let e = twice_pow k in
    let pos = pow_pos k in
    bool_same (inside a b (k + 1) j) (inside a b k (2 * j) && inside a b k (2 * j + 1))
    (λ h. let parts = and_parts (leb a (first_key (k + 1) j)) (leb (last_key (k + 1) j) b) h in
    let from : a ≤ j * (2 * 2 ^ k) = rw e at (leb-true a (first_key (k + 1) j) parts.0) in
    let to : (j + 1) * (2 * 2 ^ k) - 1 ≤ b = rw e at (leb-true (last_key (k + 1) j) b parts.1) in
    and_from (inside a b k (2 * j)) (inside a b k (2 * j + 1))
    (and_from (leb a (first_key k (2 * j))) (leb (last_key k (2 * j)) b) (le-leb a (first_key k (2 * j)) (omega arith)) (le-leb (last_key k (2 * j)) b (omega arith)))
    (and_from (leb a (first_key k (2 * j + 1))) (leb (last_key k (2 * j + 1)) b) (le-leb a (first_key k (2 * j + 1)) (omega arith)) (le-leb (last_key k (2 * j + 1)) b (omega arith))))
    (λ h. let both = and_parts (inside a b k (2 * j)) (inside a b k (2 * j + 1)) h in
    let left = and_parts (leb a (first_key k (2 * j))) (leb (last_key k (2 * j)) b) both.0 in
    let right = and_parts (leb a (first_key k (2 * j + 1))) (leb (last_key k (2 * j + 1)) b) both.1 in
    let from = leb-true a (first_key k (2 * j)) left.0 in
    let to = leb-true (last_key k (2 * j + 1)) b right.1 in
    let from' : a ≤ j * (2 * 2 ^ k) = omega arith in
    let to' : (j + 1) * (2 * 2 ^ k) - 1 ≤ b = omega arith in
    and_from (leb a (first_key (k + 1) j)) (leb (last_key (k + 1) j) b) (le-leb a (first_key (k + 1) j) (rw e from')) (le-leb (last_key (k + 1) j) b (rw e to')))

halved : (lo hi j : ℕ) → ((leb lo (2 * j) && ltb (2 * j) hi) && (leb lo (2 * j + 1) && ltb (2 * j + 1) hi)) ≡ (leb ((lo + 1) / 2) j && ltb j (hi / 2))
halved lo hi j = grind (arith, nat_tests)

-- the ends one level up
pub ends_up : (a b k lo hi : ℕ) → Ends a b k lo hi → Ends a b (k + 1) ((lo + 1) / 2) (hi / 2)
ends_up a b k lo hi e = record {
  between = λ j.
      halves a b k j ∙ ap (λ x. x && inside a b k (2 * j + 1)) (e.between (2 * j)) ∙ ap (λ x. (leb lo (2 * j) && ltb (2 * j) hi) && x) (e.between (2 * j + 1)) ∙ halved lo hi j;
}

join : (c p q : Bool) (f : ℕ → ℕ) (x y : ℕ) → cond (p && c) (f x) 0 + cond (q && c) (f y) 0 ≡ sum_by f (cond c (cond p (x ∷ []) [] ++ cond q (y ∷ []) []) [])
join true true true f x y = omega (arith, sum_by-cons f x (y ∷ []), sum_by-cons f y [])
join true true false f x y = omega (arith, sum_by-cons f x [])
join true false true f x y = omega (arith, sum_by-cons f y [])
join true false false f x y = refl
join false true true f x y = refl
join false true false f x y = refl
join false false true f x y = refl
join false false false f x y = refl

piece_below_top : (lo hi i x : ℕ) → cond ((leb lo i && ltb i hi) && not (leb ((lo + 1) / 2) (i / 2) && ltb (i / 2) (hi / 2))) x 0 ≡ cond ((eqb (lo % 2) 1 && ltb lo hi) && eqb i lo) x 0 + cond ((eqb (hi % 2) 1 && ltb lo hi) && eqb i (hi - 1)) x 0
piece_below_top lo hi i x = grind (arith, nat_tests)

piece_at_top : (lo hi i x : ℕ) → hi ≤ 1 → i < 1 → cond (leb lo i && ltb i hi) x 0 ≡ cond ((eqb (lo % 2) 1 && ltb lo hi) && eqb i lo) x 0 + cond ((eqb (hi % 2) 1 && ltb lo hi) && eqb i (hi - 1)) x 0
piece_at_top lo hi i x h l = grind (arith, nat_tests)

module _ (bits a b : ℕ) (f : ℕ → ℕ → ℕ) where
  -- what a test at one place keeps
  at_one : (p : Bool) (g : ℕ → ℕ) (j n : ℕ) → (p ≡ true → j < n) → sum_below (λ i. cond (p && eqb i j) (g i) 0) n ≡ cond p (g j) 0
  at_one true g j n h =
      sum_one (λ i. cond (eqb i j) (g i) 0) j n (h refl) (λ i l ne. ap (λ c. cond c (g i) 0) (ne_eqb i j ne)) ∙ ap (λ c. cond c (g j) 0) (eq-eqb j j refl)
  at_one false g j n h = sum_none (λ i. 0) n (λ i l. refl)

  -- the pieces of a level, among its n nodes
  level_pieces : (k lo hi : ℕ) → hi ≤ nodes bits k → ((i : ℕ) → i < nodes bits k → cond (is_piece bits a b k i) (f k i) 0 ≡ cond ((eqb (lo % 2) 1 && ltb lo hi) && eqb i lo) (f k i) 0 + cond ((eqb (hi % 2) 1 && ltb lo hi) && eqb i (hi - 1)) (f k i) 0)
      → over_level bits a b f k ≡ sum_by (f k) (odd_ends lo hi)
  level_pieces k lo hi top e =
      let all = sum_adds (λ i. cond (is_piece bits a b k i) (f k i) 0) (λ i. cond ((eqb (lo % 2) 1 && ltb lo hi) && eqb i lo) (f k i) 0) (λ i. cond ((eqb (hi % 2) 1 && ltb lo hi) && eqb i (hi - 1)) (f k i) 0) (nodes bits k) e in
      let first = at_one (eqb (lo % 2) 1 && ltb lo hi) (f k) lo (nodes bits k) (λ h. omega (arith, ltb-true lo hi (and_parts (eqb (lo % 2) 1) (ltb lo hi) h).1)) in
      let last = at_one (eqb (hi % 2) 1 && ltb lo hi) (f k) (hi - 1) (nodes bits k) (λ h. omega (arith, ltb-true lo hi (and_parts (eqb (hi % 2) 1) (ltb lo hi) h).1)) in
      omega (arith, join (ltb lo hi) (eqb (lo % 2) 1) (eqb (hi % 2) 1) (f k) lo (hi - 1))

  -- the sum over the pieces of a level is what its two ends give
  pub level_ends : (k lo hi : ℕ) → k ≤ bits → Ends a b k lo hi → hi ≤ nodes bits k → over_level bits a b f k ≡ sum_by (f k) (odd_ends lo hi)
  level_ends k lo hi l e top =
      ⊎_elim
      (λ (at : k ≡ bits).
      let one : nodes bits k ≡ 1 = let z : bits - k ≡ 0 = omega arith in ap (λ n. 2 ^ n) z in
      level_pieces k lo hi top (λ i m.
      ap (λ c. cond (inside a b k i && (c || not (inside a b (k + 1) (i / 2)))) (f k i) 0) (eq-eqb k bits at)
      ∙ ap (λ c. cond c (f k i) 0) (and_true (inside a b k i))
      ∙ ap (λ c. cond c (f k i) 0) (e.between i)
      ∙ piece_at_top lo hi i (f k i) (omega arith) (omega arith)))
      (λ (at : k ≡ bits → ⊥).
      level_pieces k lo hi top (λ i m.
      ap (λ c. cond (inside a b k i && (c || not (inside a b (k + 1) (i / 2)))) (f k i) 0) (ne_eqb k bits at)
      ∙ ap (λ c. cond (c && not (inside a b (k + 1) (i / 2))) (f k i) 0) (e.between i)
      ∙ ap (λ c. cond ((leb lo i && ltb i hi) && not c) (f k i) 0) ((ends_up a b k lo hi e).between (i / 2))
      ∙ piece_below_top lo hi i (f k i)))
      (cases_eq k bits)

-- how far a walk has come: lo and hi are the ends at level k
pub record Walked (bits a b k lo hi : ℕ) : Type 0 where
  pub ends : Ends a b k lo hi
  pub fits : hi ≤ nodes bits k

half_fits : (bits k hi : ℕ) → hi ≤ nodes bits k → hi / 2 ≤ nodes bits (k + 1)
half_fits bits k hi h =
    ⊎_elim
    (λ (l : k < bits).
    let e : bits - k ≡ bits - (k + 1) + 1 = omega arith in
    let p : nodes bits k ≡ 2 * nodes bits (k + 1) = ap (λ n. 2 ^ n) e ∙ twice_pow (bits - (k + 1)) in
    omega arith)
    (λ (l : bits ≤ k).
    let e : bits - k ≡ 0 = omega arith in
    let p = ap (λ n. 2 ^ n) e in
    omega arith)
    (cases_lt k bits)

pub walked_more : (bits a b k lo hi : ℕ) → Walked bits a b k lo hi → Walked bits a b (k + 1) ((lo + 1) / 2) (hi / 2)
walked_more bits a b k lo hi w =
    record { ends = ends_up a b k lo hi w.ends; fits = half_fits bits k hi w.fits }

-- a sum over the pieces of one level more
pub summed_more : (bits a b : ℕ) (f : ℕ → ℕ → ℕ) (k lo hi : ℕ) → Walked bits a b k lo hi → k ≤ bits → sum_below (over_level bits a b f) (k + 1) ≡ sum_below (over_level bits a b f) k + sum_by (f k) (odd_ends lo hi)
summed_more bits a b f k lo hi w l = omega (arith, sum_more (over_level bits a b f) k, level_ends bits a b f k lo hi l w.ends w.fits)

-- the ends that are met are pieces
first_of : (lo hi : ℕ) (top : Bool) → lo < hi → eqb (lo % 2) 1 ≡ true → ((leb lo lo && ltb lo hi) && (top || not (leb ((lo + 1) / 2) (lo / 2) && ltb (lo / 2) (hi / 2)))) ≡ true
first_of lo hi top h e = grind (arith, nat_tests)

last_of : (lo hi : ℕ) (top : Bool) → lo < hi → eqb (hi % 2) 1 ≡ true → ((leb lo (hi - 1) && ltb (hi - 1) hi) && (top || not (leb ((lo + 1) / 2) ((hi - 1) / 2) && ltb ((hi - 1) / 2) (hi / 2)))) ≡ true
last_of lo hi top h e = grind (arith, nat_tests)

module _ (bits a b k lo hi : ℕ) (w : Walked bits a b k lo hi) where
  piece_by_ends : (i : ℕ) → is_piece bits a b k i ≡ ((leb lo i && ltb i hi) && (eqb k bits || not (leb ((lo + 1) / 2) (i / 2) && ltb (i / 2) (hi / 2))))
  piece_by_ends i =
      ap (λ c. c && (eqb k bits || not (inside a b (k + 1) (i / 2)))) (w.ends.between i) ∙ ap (λ c. (leb lo i && ltb i hi) && (eqb k bits || not c)) ((ends_up a b k lo hi w.ends).between (i / 2))

  of_both : (c p q : Bool) (x y : ℕ) (P : ℕ → Type 0) → (c ≡ true → p ≡ true → P x) → (c ≡ true → q ≡ true → P y) → AllByRecursion P (cond c (cond p (x ∷ []) [] ++ cond q (y ∷ []) []) [])
  of_both true true true x y P f g = (f refl refl, (g refl refl, tt))
  of_both true true false x y P f g = (f refl refl, tt)
  of_both true false true x y P f g = (g refl refl, tt)
  of_both true false false x y P f g = tt
  of_both false p q x y P f g = tt

  pub ends_are_pieces : AllByRecursion (λ i. is_piece bits a b k i ≡ true) (odd_ends lo hi)
  ends_are_pieces =
      of_both (ltb lo hi) (eqb (lo % 2) 1) (eqb (hi % 2) 1) lo (hi - 1) (λ i. is_piece bits a b k i ≡ true)
      (λ apart odd. piece_by_ends lo ∙ first_of lo hi (eqb k bits) (ltb-true lo hi apart) odd)
      (λ apart odd. piece_by_ends (hi - 1) ∙ last_of lo hi (eqb k bits) (ltb-true lo hi apart) odd)

pub few_ends : (lo hi : ℕ) → length (odd_ends lo hi) ≤ 2
few_ends lo hi = go (ltb lo hi) (eqb (lo % 2) 1) (eqb (hi % 2) 1)
  where
    go : (c p q : Bool) → length (cond c (cond p (lo ∷ []) [] ++ cond q ((hi - 1) ∷ []) []) []) ≤ 2
    go true true true = omega arith
    go true true false = omega arith
    go true false true = omega arith
    go true false false = omega arith
    go false p q = omega arith
