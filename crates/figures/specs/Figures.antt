-- One table of small cases, each worked by hand beside the definitions.
use Rattle.std.specs.Prelude.{◌≡◌, ℕ, zero, suc, true, false, List, [], ◌∷◌, replicate, filter}
use Rattle.std.specs.List.{range_with_len}
use Rattle.histogram.specs.Buckets.{Bucket, live_buckets, least, most, after_arrival}
use Rattle.histogram.specs.Histograms.{new_histogram, buckets}
use Rattle.wave.specs.Waves.{sound, wave_low, wave_high, fresh, arrived}
use Rattle.wave.specs.declared.Wave.{Wave}
use Rattle.sketch.specs.Layout.{Shape, column}
use Rattle.sketch.specs.Pieces.{is_piece}
use Rattle.sketch.specs.Nodes.{clear, clear_piece}

-- the buckets of a histogram once stamps have arrived one after the other, by window w and fineness m
abbrev pub after_all : (m w : ℕ) → List ℕ → List Bucket → List Bucket
after_all m w [] bs = bs
after_all m w (t ∷ ts) bs = after_all m w ts (after_arrival m w t bs)

-- low and high at t over v of a new histogram, with window 100 and fineness 1, to which stamps 1 to 7 have come
abbrev pub HistogramCounts : (t v low high : ℕ) → Type 0
HistogramCounts t v low high =
    let live : List Bucket = live_buckets t v (after_all 1 100 (1 ∷ 2 ∷ 3 ∷ 4 ∷ 5 ∷ 6 ∷ 7 ∷ []) (buckets (new_histogram 100 1))) in
    (least live ≡ low) × (most live ≡ high)

-- a new wave, with window 100 and fineness 1, to which stamps 1 to k have come
unfoldable pub wave_after : ℕ → Wave
wave_after zero = fresh 100 1
wave_after (suc k) = arrived (wave_after k) (suc k)

-- its low and high at t over v, after stamps 1 to 7
abbrev pub WaveCounts : (t v low high : ℕ) → Type 0
WaveCounts t v low high = (wave_low (wave_after 7) t v ≡ low) × (wave_high (wave_after 7) t v ≡ high)

-- four keys in one row of two columns, with the words 1 and 0
abbrev pub two_columns : Shape
two_columns = record { window = 100; fineness = 1; bits = 2; rows = 1; spread = 1; words = 1 ∷ 0 ∷ [] }

-- 32 keys, two rows of four columns a level, and every seed word 0, so that all nodes of a level share a column
abbrev pub one_column : Shape
one_column = record { window = 100; fineness = 2; bits = 5; rows = 2; spread = 2; words = replicate 60 0 }

-- the table
pub record Figures : Type 0 where
  pub histogram_over_seven : HistogramCounts 7 7 4 7
  pub histogram_over_four : HistogramCounts 7 4 4 7
  pub histogram_over_three : HistogramCounts 7 3 2 3
  pub histogram_newest_alone : HistogramCounts 106 100 1 1
  pub histogram_none_live : HistogramCounts 107 100 0 0
  pub wave_sound : sound (wave_after 7) ≡ true
  pub wave_over_seven : WaveCounts 7 7 6 7
  pub wave_over_four : WaveCounts 7 4 4 5
  pub wave_over_three : WaveCounts 7 3 3 3
  -- by the words 1 and 0 the columns of nodes 0 to 3 are 0, 1, 0, 1
  pub column_of_0 : column two_columns 0 0 0 ≡ 0
  pub column_of_1 : column two_columns 0 0 1 ≡ 1
  pub column_of_2 : column two_columns 0 0 2 ≡ 0
  pub column_of_3 : column two_columns 0 0 3 ≡ 1
  -- of 8 keys, the pieces of the keys from 1 to 6 are key 1, keys 2 and 3, keys 4 and 5, key 6
  pub pieces_of_one_key : filter (is_piece 3 1 6 0) (range_with_len 0 8) ≡ 1 ∷ 6 ∷ []
  pub pieces_of_two_keys : filter (is_piece 3 1 6 1) (range_with_len 0 4) ≡ 1 ∷ 2 ∷ []
  pub pieces_of_four_keys : ◌≡◌ {A = List ℕ} (filter (is_piece 3 1 6 2) (range_with_len 0 2)) []
  pub pieces_of_all_keys : ◌≡◌ {A = List ℕ} (filter (is_piece 3 1 6 3) (range_with_len 0 1)) []
  -- where all share a column, the only enrolled key is clear; with a second one neither is; the top node has no other beside it
  pub alone_is_clear : clear one_column 1 0 0 0 ≡ true
  pub shared_is_not : clear_piece one_column 2 0 0 ≡ false
  pub free_key_is_not : clear_piece one_column 1 0 1 ≡ false
  pub top_is_clear : clear one_column 32 5 0 1 ≡ true
