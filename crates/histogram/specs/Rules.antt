-- The rules of an exponential histogram: when buckets, newest first, are sound, and how an arrival changes them.
use Rattle.std.specs.Prelude.{◌≡◌, ℕ, ◌+◌, ◌*◌, ◌^◌, ◌<◌, ◌≤◌, max, true, List, [], ◌∷◌, ◌++◌, count_by, nat_eq}
use Rattle.std.specs.List.{AllByRecursion}
use Rattle.histogram.specs.Buckets.{Bucket, bucket, total, falling, live_buckets}

-- how many buckets have size s
abbrev pub how_many : ℕ → List Bucket → ℕ
how_many s bs = count_by (λ b. nat_eq b.size s) bs

-- the largest size, 0 where there is no bucket
abbrev pub largest : List Bucket → ℕ
largest [] = 0
largest (b ∷ bs) = max b.size (largest bs)

-- sizes never fall, and none is below lo
abbrev pub Climbing : ℕ → List Bucket → Type 0
Climbing lo [] = Unit {0}
Climbing lo (b ∷ bs) = (lo ≤ b.size) × Climbing b.size bs

-- sound buckets of fineness m, none after the last stamp
pub record SoundBuckets (m last : ℕ) (bs : List Bucket) : Type 0 where
  pub powers_of_two : AllByRecursion (λ b. (k : ℕ) × (b.size ≡ 2 ^ k)) bs
  pub sizes_never_fall : Climbing 1 bs
  pub sum_bounded : total bs ≤ 4095
  pub stamps_never_rise : falling last bs ≡ true
  pub no_size_crowded : (s : ℕ) → how_many s bs ≤ m + 1
  pub no_size_skipped : (k : ℕ) → 2 ^ k < largest bs → m ≤ how_many (2 ^ k) bs

-- while some size has m + 2 buckets, the two oldest of that size become one of double size with the newer stamp
pub data Merged (m : ℕ) : List Bucket → List Bucket → Type 0 where
  settled : {bs : List Bucket} → ((s : ℕ) → how_many s bs ≤ m + 1) → Merged m bs bs
  merge : (front older : List Bucket) (a b : Bucket) {bs : List Bucket}
      → b.size ≡ a.size → how_many a.size (front ++ (a ∷ (b ∷ older))) ≡ m + 2 → how_many a.size older ≡ 0
      → Merged m (front ++ (bucket (2 * a.size) a.stamp ∷ older)) bs
      → Merged m (front ++ (a ∷ (b ∷ older))) bs

-- stamp t arrives: the buckets dead at t over w are dropped, one of size 1 is added, and sizes with too many are merged
abbrev pub Taken : ℕ → ℕ → ℕ → List Bucket → List Bucket → Type 0
Taken m w t before after = Merged m (bucket 1 t ∷ live_buckets t w before) after
