-- Buckets, newest first: which are live, what they count, and which there are once a stamp has arrived.
use Rattle.std.specs.Prelude.{ℕ, ◌+◌, ◌*◌, Bool, true, cond, ◌&&◌, List, [], ◌∷◌, filter, ◌==◌, nat_le}
use Rattle.window.specs.Stamps.{is_live}

-- a number of arrivals, and the stamp of the newest of them
pub record Bucket : Type 0 where
  pub size : ℕ
  pub stamp : ℕ

-- the bucket of n arrivals with stamp s
abbrev pub bucket : ℕ → ℕ → Bucket
bucket n s = record { size = n; stamp = s }

-- how many arrivals the buckets hold
abbrev pub total : List Bucket → ℕ
total [] = 0
total (b ∷ bs) = b.size + total bs

-- stamps never rise, and none is after top
abbrev pub falling : ℕ → List Bucket → Bool
falling top [] = true
falling top (b ∷ bs) = nat_le b.stamp top && falling b.stamp bs

-- the buckets live at t over v
abbrev pub live_buckets : ℕ → ℕ → List Bucket → List Bucket
live_buckets t v bs = filter (λ b. is_live t v b.stamp) bs

-- of a bucket of size c and those after it: the size of the oldest
abbrev pub oldest_size : ℕ → List Bucket → ℕ
oldest_size c [] = c
oldest_size c (b ∷ bs) = oldest_size b.size bs

-- of a bucket of size c and those after it: the sum of all sizes but the oldest one's
abbrev pub other_sizes : ℕ → List Bucket → ℕ
other_sizes c [] = 0
other_sizes c (b ∷ bs) = c + other_sizes b.size bs

-- low of the live buckets: the oldest counts as 1
abbrev pub least : List Bucket → ℕ
least [] = 0
least (b ∷ bs) = other_sizes b.size bs + 1

-- high of the live buckets: the oldest counts in full
abbrev pub most : List Bucket → ℕ
most [] = 0
most (b ∷ bs) = other_sizes b.size bs + oldest_size b.size bs

-- h is the n-th bucket of its size, the rest older: the two oldest of m + 2 become one of double size with the newer stamp
abbrev pub settle : ℕ → ℕ → Bucket → List Bucket → List Bucket
settle m n h [] = h ∷ []
settle m n h (b ∷ bs) =
    cond (b.size == h.size)
    (cond (nat_le (m + 1) n) (settle m 1 (bucket (2 * h.size) h.stamp) bs) (h ∷ settle m (n + 1) b bs))
    (h ∷ (b ∷ bs))

-- the buckets once stamp t has arrived: those dead at t over w are gone, and one of size 1 is new
abbrev pub after_arrival : ℕ → ℕ → ℕ → List Bucket → List Bucket
after_arrival m w t bs = settle m 1 (bucket 1 t) (live_buckets t w bs)
