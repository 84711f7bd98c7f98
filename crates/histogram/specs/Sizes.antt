-- The sizes of sound buckets: an arrival keeps them sound, and low and high are near.
use Rattle.std.specs.Prelude.{◌≡◌, ℕ, ◌+◌, ◌-◌, ◌*◌, ◌<◌, ◌≤◌, List, [], ◌∷◌, ◌==◌, ◌≢◌, nat_le, refl}
use Rattle.std.proofs.Common.{sym, ap, subst, ◌∙◌, ⊎_elim, arith, mul-zero, mul-add, add-mul, one-mul, mul-le-mul_right}
use Rattle.std.proofs.lemmas.Bool.{le-leb, eqb-true, eq-eqb, ne_eqb, lt-leb, cases_eq, cond-true, cond-false, cond_both}
use Rattle.histogram.specs.Buckets.{Bucket, bucket, total, oldest_size, other_sizes, least, most, settle}

-- what may follow n buckets of size s: one more of its size, or one of double size where it has m
pub data Shaped (m : ℕ) : ℕ → ℕ → List Bucket → Type 0 where
  end : {s n : ℕ} → Shaped m s n []
  more : {s n : ℕ} {b : Bucket} {bs : List Bucket} → b.size ≡ s → n ≤ m → Shaped m s (n + 1) bs → Shaped m s n (b ∷ bs)
  next : {s n : ℕ} {b : Bucket} {bs : List Bucket} → b.size ≡ 2 * s → m ≤ n → Shaped m (2 * s) 1 bs → Shaped m s n (b ∷ bs)

-- one step of `settle`
pub settle_merge : (m n : ℕ) (h b : Bucket) (bs : List Bucket) → b.size ≡ h.size → m + 1 ≤ n → settle m n h (b ∷ bs) ≡ settle m 1 (bucket (2 * h.size) h.stamp) bs
settle_merge m n h b bs e f = cond-true (b.size == h.size) _ _ (eq-eqb _ _ e) ∙ cond-true (nat_le (m + 1) n) _ _ (le-leb (m + 1) n f)

pub settle_more : (m n : ℕ) (h b : Bucket) (bs : List Bucket) → b.size ≡ h.size → n < m + 1 → settle m n h (b ∷ bs) ≡ h ∷ settle m (n + 1) b bs
settle_more m n h b bs e f = cond-true (b.size == h.size) _ _ (eq-eqb _ _ e) ∙ cond-false (nat_le (m + 1) n) _ _ (lt-leb (m + 1) n f)

pub settle_next : (m n : ℕ) (h b : Bucket) (bs : List Bucket) → (b.size ≢ h.size) → settle m n h (b ∷ bs) ≡ h ∷ (b ∷ bs)
settle_next m n h b bs e = cond-false (b.size == h.size) _ _ (ne_eqb _ _ e)

mutual
  -- one bucket more of its size
  pub settle_ahead : (m s n : ℕ) (h : Bucket) (bs : List Bucket) → 0 < m → 0 < s → h.size ≡ s → n ≤ m → Shaped m s n bs → Shaped m s n (settle m (n + 1) h bs)
  settle_ahead m s n h [] some pos eh few end = more eh few end
  settle_ahead m s n h (b ∷ bs) some pos eh few (more e l r) =
      let twice : Bucket = bucket (2 * h.size) h.stamp in
      ⊎_elim
      (λ (q : n ≡ m). subst (Shaped m s n) (sym (settle_merge m (n + 1) h b bs (e ∙ sym eh) (omega arith)))
      (subst (λ k. Shaped m s k (settle m 1 twice bs)) (sym q) (settle_merged m s twice bs some pos (omega arith) (subst (λ k. Shaped m s (k + 1) bs) q r))))
      (λ (q : n ≡ m → ⊥). subst (Shaped m s n) (sym (settle_more m (n + 1) h b bs (e ∙ sym eh) (let d : n ≡ m → ⊥ = q in omega arith)))
      (more eh few (settle_ahead m s (n + 1) b bs some pos e (let d : n ≡ m → ⊥ = q in omega arith) r)))
      (cases_eq n m)
  settle_ahead m s n h (b ∷ bs) some pos eh few (next e l r) =
      subst (Shaped m s n) (sym (settle_next m (n + 1) h b bs (λ q. omega arith))) (more eh few (next e (omega arith) r))

  -- two of the smaller size have become this one
  settle_merged : (m s : ℕ) (h : Bucket) (bs : List Bucket) → 0 < m → 0 < s → h.size ≡ 2 * s → Shaped m s (m + 1) bs → Shaped m s m (settle m 1 h bs)
  settle_merged m s h [] some pos eh end = next eh (omega arith) end
  settle_merged m s h (b ∷ bs) some pos eh (more e l r) = absurd (omega arith)
  settle_merged m s h (b ∷ bs) some pos eh (next e l r) =
      subst (Shaped m s m) (sym (settle_more m 1 h b bs (e ∙ sym eh) (omega arith)))
      (next eh (omega arith) (settle_ahead m (2 * s) 1 b bs some (omega arith) e (omega arith) r))

-- an arrival adds its own size
pub total_settle : (m n : ℕ) (h : Bucket) (bs : List Bucket) → total (settle m n h bs) ≡ h.size + total bs
total_settle m n h [] = refl
total_settle m n h (b ∷ bs) =
    cond_both (b.size == h.size) _ _ (λ ls. total ls ≡ h.size + (b.size + total bs))
    (λ e. let q : b.size ≡ h.size = eqb-true _ _ e in
    cond_both (nat_le (m + 1) n) _ _ (λ ls. total ls ≡ h.size + (b.size + total bs))
    (λ _. total_settle m 1 (bucket (2 * h.size) h.stamp) bs ∙ omega arith)
    (λ _. ap (λ k. h.size + k) (total_settle m (n + 1) b bs)))
    (λ e. refl)

-- all sizes but the oldest one's, and the oldest one's
sizes_sum : (c : ℕ) (bs : List Bucket) → other_sizes c bs + oldest_size c bs ≡ c + total bs
sizes_sum c [] = omega arith
sizes_sum c (b ∷ bs) = omega (arith, sizes_sum b.size bs)

pub most_is_total : (bs : List Bucket) → most bs ≡ total bs
most_is_total [] = refl
most_is_total (b ∷ bs) = sizes_sum b.size bs

-- a size that has been passed has m buckets at least
passed : (m s n : ℕ) → 0 < s → m ≤ n → m * (2 * s - 1) ≤ m * (s - 1) + n * s
passed m s n pos l =
    let e : 2 * s - 1 ≡ (s - 1) + s = omega arith in
    rw e (omega (arith, mul-add m (s - 1) s, mul-le-mul_right s l))

one_more : (n s : ℕ) → (n + 1) * s ≡ n * s + s
one_more n s = omega (arith, add-mul n 1 s, one-mul s)

-- the oldest bucket is small beside the others; a counts what came before
near_from : (m s n a : ℕ) (b : Bucket) (bs : List Bucket) → 0 < s → m * (s - 1) + n * s ≤ a → Shaped m s n (b ∷ bs) → m * (oldest_size b.size bs - 1) ≤ a + other_sizes b.size bs
near_from m s n a b [] pos h (more e l r) = let q : b.size - 1 ≡ s - 1 = omega arith in rw q (omega arith)
near_from m s n a b [] pos h (next e l r) = let q : b.size - 1 ≡ 2 * s - 1 = omega arith in rw q (omega (arith, passed m s n pos l))
near_from m s n a b (d ∷ bs) pos h (more e l r) = omega (arith, near_from m s (n + 1) (a + s) d bs pos (omega (arith, one_more n s)) r)
near_from m s n a b (d ∷ bs) pos h (next e l r) =
    omega (arith, near_from m (2 * s) 1 (a + 2 * s) d bs (omega arith) (omega (arith, passed m s n pos l, one-mul (2 * s))) r)

pub near : (m : ℕ) (bs : List Bucket) → Shaped m 1 0 bs → m * (most bs - least bs) ≤ least bs
near m [] r = omega (arith, mul-zero m)
near m (b ∷ bs) r =
    let q : (other_sizes b.size bs + oldest_size b.size bs) - (other_sizes b.size bs + 1) ≡ oldest_size b.size bs - 1 = omega arith in
    rw q (omega (arith, near_from m 1 0 0 b bs (omega arith) (omega (arith, mul-zero m)) r))
