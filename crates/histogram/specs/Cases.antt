-- Worked cases: window 100, fineness 1, arrivals at 1, 2, 3 up to 7.
use Rattle.std.specs.Prelude.{◌≡◌, ℕ, List, [], ◌∷◌}
use Rattle.histogram.specs.Buckets.{Bucket, live_buckets, least, most, after_arrival}
use Rattle.histogram.specs.Histograms.{new_histogram, buckets}

-- the buckets once stamps have arrived one after the other
abbrev pub after_all : ℕ → ℕ → List ℕ → List Bucket → List Bucket
after_all m w [] bs = bs
after_all m w (t ∷ ts) bs = after_all m w ts (after_arrival m w t bs)

-- low and high at t over v of a new histogram to which seven stamps have come
abbrev pub Counted : (t v low high : ℕ) → Type 0
Counted t v low high =
    let live : List Bucket = live_buckets t v (after_all 1 100 (1 ∷ 2 ∷ 3 ∷ 4 ∷ 5 ∷ 6 ∷ 7 ∷ []) (buckets (new_histogram 100 1))) in
    (least live ≡ low) × (most live ≡ high)

pub record WorkedCases : Type 0 where
  pub over_seven : Counted 7 7 4 7
  pub over_four : Counted 7 4 4 7
  pub over_three : Counted 7 3 2 3
  pub newest_alone : Counted 106 100 1 1
  pub none_live : Counted 107 100 0 0
