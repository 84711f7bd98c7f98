-- What a histogram holds, when it is sound, which arrival lists it stands for, and what an arrival leaves.
use Rattle.std.specs.Prelude.{◌≡◌, ℕ, ◌+◌, ◌*◌, ◌≤◌, Bool, true, false, cond, ◌&&◌, ◌||◌, List, [], ◌∷◌, ◌++◌, map, reverse, length, take, drop, replicate, Some, None, Ok, Err, Option, Result, ◌==◌, nat_le, slice_index}
use Rattle.std.specs.List.{AllByRecursion}
use Rattle.window.specs.declared.CounterFault.{CounterFault}
use Rattle.window.specs.Stamps.{live_count, ascending, newest_stamp}
use Rattle.window.specs.Settings.{in_range}
use Rattle.window.specs.Meaning.{Model}
use Rattle.histogram.specs.declared.levels.Level.{Level}
use Rattle.histogram.specs.declared.Histogram.{Histogram}
use Rattle.histogram.specs.Buckets.{Bucket, bucket, total, falling, live_buckets, least, most, after_arrival}
use Rattle.histogram.specs.Rules.{SoundBuckets, Taken}

-- the stamps of a level's buckets, newest first
abbrev pub in_use : Level → List ℕ
in_use l = take l.number l.stamps

-- the buckets of a level, all of size s
abbrev pub level_buckets : ℕ → Level → List Bucket
level_buckets s l = map (bucket s) (in_use l)

-- the buckets of levels, s the size of the first, each level's size double the one before
abbrev pub buckets_from : ℕ → List Level → List Bucket
buckets_from s [] = []
buckets_from s (l ∷ ls) = level_buckets s l ++ buckets_from (2 * s) ls

-- the buckets that a histogram holds, newest first
abbrev pub buckets : Histogram → List Bucket
buckets c = buckets_from 1 c.levels

-- a level has seven places, and no more of them are in use
abbrev pub Places : Level → Type 0
Places l = (length l.stamps ≡ 7) × (l.number ≤ 7)

-- a level with no bucket
abbrev pub empty_level : Level
empty_level = record { number = 0; stamps = replicate 7 0 }

-- a new histogram of window w and fineness m
abbrev pub new_histogram : ℕ → ℕ → Histogram
new_histogram w m = record { window = w; fineness = m; last = 0; taken = 0; levels = replicate 12 empty_level }

-- what is left of a level where stamps never rise, once the buckets dead at t over v are dropped: the live ones
abbrev pub Trimmed : ℕ → ℕ → Level → Level → Type 0
Trimmed t v before after = (s top : ℕ) → top ≤ t → falling top (level_buckets s before) ≡ true → level_buckets s after ≡ live_buckets t v (level_buckets s before)

-- a bucket with stamp t comes first in a level: of m + 2 the two oldest leave, and the newer one's stamp is handed on
abbrev pub Inserted : ℕ → ℕ → Level → Level → Option ℕ → Type 0
Inserted m t before after None = (before.number ≤ m) × (in_use after ≡ t ∷ in_use before)
Inserted m t before after (Some s) = (before.number ≡ m + 1) × (in_use after ≡ take m (t ∷ in_use before)) × (s ≡ slice_index (t ∷ in_use before) m)

-- when a histogram is sound
pub record Sound (c : Histogram) : Type 0 where
  pub some_window : 1 ≤ c.window
  pub window_fits : c.window ≤ 4294967295
  pub some_fineness : 1 ≤ c.fineness
  pub fineness_fits : c.fineness ≤ 6
  pub twelve_levels : length c.levels ≡ 12
  pub seven_places : AllByRecursion Places c.levels
  pub sound_buckets : SoundBuckets c.fineness c.last (buckets c)

-- whether each level has its places
abbrev pub placed : List Level → Bool
placed [] = true
placed (l ∷ ls) = (length l.stamps == 7 && nat_le l.number 7) && placed ls

-- a level of n buckets may come after one of k: no size has more than m + 1, and one before others has m
abbrev pub may_follow : ℕ → ℕ → ℕ → Bool
may_follow m k n = nat_le n (m + 1) && (n == 0 || nat_le m k)

-- whether levels after one of k buckets have the numbers of buckets that they may have
abbrev pub filled : ℕ → ℕ → List Level → Bool
filled m k [] = true
filled m k (l ∷ ls) = may_follow m k l.number && filled m l.number ls

-- whether a histogram is sound, as a test
unfoldable pub sound : Histogram → Bool
sound c =
    in_range c.window c.fineness
    && ((length c.levels == 12 && placed c.levels)
    && (filled c.fineness c.fineness c.levels && (falling c.last (buckets c) && nat_le (total (buckets c)) 4095)))

-- low and high at t over v; what is not sound counts nothing
abbrev pub low_at : Histogram → ℕ → ℕ → ℕ
low_at c t v = cond (sound c) (least (live_buckets t v (buckets c))) 0

abbrev pub high_at : Histogram → ℕ → ℕ → ℕ
high_at c t v = cond (sound c) (most (live_buckets t v (buckets c))) 0

-- the newest of some arrivals, newest first, is at s
abbrev pub begins : ℕ → List ℕ → Bool
begins s [] = false
begins s (y ∷ ys) = y == s

-- arrivals, newest first, are cut into buckets: each part begins with its bucket's stamp, and what is left is dead at t over w
abbrev pub cut : ℕ → ℕ → List Bucket → List ℕ → Bool
cut t w [] ys = live_count t w ys == 0
cut t w (b ∷ bs) ys = begins b.stamp ys && (nat_le b.size (length ys) && cut t w bs (drop b.size ys))

-- whether a histogram stands for an arrival list
abbrev pub stands_for : Histogram → List ℕ → Bool
stands_for c xs =
    sound c
    && (length xs == c.taken && (ascending xs && (newest_stamp xs == c.last && cut c.last c.window (buckets c) (reverse xs))))

-- the histogram as a window counter
abbrev pub histogram_model : Model Histogram
histogram_model = record {
  stands = stands_for;
  low = low_at;
  high = high_at;
  window = λ c. c.window;
  fineness = λ c. c.fineness;
  limit = λ c. 4095;
  last = λ c. c.last;
  taken = λ c. c.taken;
}

-- what one reading tells: None of a histogram that is not sound, else low and high
abbrev pub Reads : Histogram → ℕ → ℕ → Option (ℕ × ℕ) → Type 0
Reads c t v None = sound c ≡ false
Reads c t v (Some pair) = (sound c ≡ true) × (pair.0 ≡ low_at c t v) × (pair.1 ≡ high_at c t v)

-- what a count at t over v gives: low and high of a sound histogram's live buckets, 0 and 0 of any other
pub record Counts (c : Histogram) (t v : ℕ) (pair : ℕ × ℕ) : Type 0 where
  pub low : Sound c → pair.0 ≡ least (live_buckets t v (buckets c))
  pub high : Sound c → pair.1 ≡ most (live_buckets t v (buckets c))
  pub low_of_unsound : (Sound c → ⊥) → pair.0 ≡ 0
  pub high_of_unsound : (Sound c → ⊥) → pair.1 ≡ 0

-- what a count gives where it is not refused
abbrev pub Gives : Histogram → ℕ → ℕ → Result (ℕ × ℕ) CounterFault → Type 0
Gives c t v (Ok pair) = Counts c t v pair
Gives c t v (Err f) = Unit {0}

-- c with t as its newest stamp and one stamp more taken, its levels as they were
abbrev pub advanced : Histogram → ℕ → Histogram
advanced c t = record { window = c.window; fineness = c.fineness; last = t; taken = c.taken + 1; levels = c.levels }

-- d is c once stamp t has arrived
pub record Arrives (c d : Histogram) (t : ℕ) : Type 0 where
  pub window : d.window ≡ c.window
  pub fineness : d.fineness ≡ c.fineness
  pub last : d.last ≡ t
  pub taken : d.taken ≡ c.taken + 1
  -- a sound one stays sound, and its buckets change by the rule
  pub stays_sound : Sound c → Sound d
  pub by_the_rule : Sound c → Taken c.fineness c.window t (buckets c) (buckets d)
  pub buckets_after : Sound c → buckets d ≡ after_arrival c.fineness c.window t (buckets c)
  -- one arrival more is live over the window, at most
  pub one_more_live : Sound c → high_at d t c.window ≡ high_at c t c.window + 1
  -- one that is not sound keeps its levels
  pub levels_kept : (Sound c → ⊥) → d.levels ≡ c.levels

-- what a taking leaves, refused or not
abbrev pub Leaves : Histogram → Histogram → ℕ → Result (Unit {0}) CounterFault → Type 0
Leaves c d t (Ok u) = Arrives c d t
Leaves c d t (Err f) = d ≡ c
