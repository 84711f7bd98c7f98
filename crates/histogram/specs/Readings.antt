-- What is known of the newest buckets while they are read one by one.
use Rattle.std.specs.Prelude.{◌≡◌, ℕ, ◌+◌, true, false, cond, List, [], ◌∷◌, ◌++◌, Some, None, Option}
use Rattle.window.specs.Stamps.{is_live}
use Rattle.histogram.specs.declared.tally.Tally.{Tally}
use Rattle.histogram.specs.Buckets.{Bucket, total, falling, live_buckets, least, most}

-- the stamp of the oldest bucket, top where there is none
abbrev pub oldest_stamp : ℕ → List Bucket → ℕ
oldest_stamp top [] = top
oldest_stamp top (b ∷ bs) = oldest_stamp b.stamp bs

-- a is the tally of buckets that fall from the last stamp, counted at t over v
pub record Tells (t v last : ℕ) (bs : List Bucket) (a : Tally) : Type 0 where
  pub falls : falling last bs ≡ true
  pub top : a.top ≡ oldest_stamp last bs
  pub sum : a.sum ≡ total bs
  pub low : a.low ≡ least (live_buckets t v bs)
  pub high : a.high ≡ most (live_buckets t v bs)

-- the tally d is a with one older bucket
pub record Widened (t v size stamp : ℕ) (a d : Tally) : Type 0 where
  pub top : d.top ≡ stamp
  pub sum : d.sum ≡ a.sum + size
  pub low : d.low ≡ cond (is_live t v stamp) (a.high + 1) a.low
  pub high : d.high ≡ cond (is_live t v stamp) (a.high + size) a.high

-- the tally a goes on over older buckets, unless a stamp rises
abbrev pub GoesOn : ℕ → ℕ → List Bucket → Tally → Option Tally → Type 0
GoesOn t v bs a None = (last : ℕ) (front : List Bucket) → Tells t v last front a → falling last (front ++ bs) ≡ false
GoesOn t v bs a (Some d) = (last : ℕ) (front : List Bucket) → Tells t v last front a → Tells t v last (front ++ bs) d
