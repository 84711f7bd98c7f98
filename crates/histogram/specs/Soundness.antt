-- The test of soundness decides what the rules say, and one pass answers it.
use Rattle.std.specs.Prelude.{◌≡◌, ℕ, ◌<◌, ◌≤◌, true, false, ◌&&◌, List, [], ◌∷◌, length, is_some, Some, None, Decides, Option, ◌==◌, nat_le, refl}
use Rattle.std.proofs.Common.{Bool, sym, subst, ◌∙◌, ⊎_elim, arith}
use Rattle.std.specs.Option.{unwrap_or}
use Rattle.std.specs.Bool.{then_some}
use Rattle.std.specs.List.{AllByRecursion}
use Rattle.std.proofs.lemmas.Bool.{both_ways, and_parts, and_from, leb-true, leb-false, le-leb, eqb-true, eq-eqb, cases_Bool, cond-true, cond-false}
use Rattle.window.specs.Settings.{in_range}
use Rattle.histogram.specs.declared.levels.Level.{Level}
use Rattle.histogram.specs.declared.tally.Tally.{Tally}
use Rattle.histogram.specs.declared.Histogram.{Histogram}
use Rattle.histogram.specs.Buckets.{total, falling, live_buckets, least, most}
use Rattle.histogram.specs.Histograms.{buckets, Places, Sound, placed, filled, sound, low_at, high_at, Reads, Counts}
use Rattle.histogram.specs.Sizes.{Shaped}
use Rattle.histogram.specs.Merging.{sound_buckets}
use Rattle.histogram.specs.Filling.{shaped_levels, sound_filled}
use Rattle.histogram.specs.Passing.{Passed}

-- the parts of the test
pub record Parts (c : Histogram) : Type 0 where
  pub ranges : in_range c.window c.fineness ≡ true
  pub levels : length c.levels ≡ 12
  pub places : AllByRecursion Places c.levels
  pub fills : filled c.fineness c.fineness c.levels ≡ true
  pub falls : falling c.last (buckets c) ≡ true
  pub sum : total (buckets c) ≤ 4095

pub record Ranges (w m : ℕ) : Type 0 where
  pub some_window : 1 ≤ w
  pub window_fits : w ≤ 4294967295
  pub some_fineness : 1 ≤ m
  pub fineness_fits : m ≤ 6

pub ranges_from : (w m : ℕ) → in_range w m ≡ true → Ranges w m
ranges_from w m e =
    let a = and_parts (nat_le 1 w && nat_le w 4294967295) (nat_le 1 m && nat_le m 6) e in
    let b = and_parts (nat_le 1 w) (nat_le w 4294967295) a.0 in
    let d = and_parts (nat_le 1 m) (nat_le m 6) a.1 in
    record { some_window = leb-true _ _ b.0; window_fits = leb-true _ _ b.1; some_fineness = leb-true _ _ d.0; fineness_fits = leb-true _ _ d.1 }

pub ranges_to : (w m : ℕ) → 1 ≤ w → w ≤ 4294967295 → 1 ≤ m → m ≤ 6 → in_range w m ≡ true
ranges_to w m a b d e = and_from (nat_le 1 w && nat_le w 4294967295) (nat_le 1 m && nat_le m 6) (and_from _ _ (le-leb _ _ a) (le-leb _ _ b)) (and_from _ _ (le-leb _ _ d) (le-leb _ _ e))

placed_from : (ls : List Level) → placed ls ≡ true → AllByRecursion Places ls
placed_from [] e = tt
placed_from (l ∷ ls) e =
    let a = and_parts (length l.stamps == 7 && nat_le l.number 7) (placed ls) e in
    let b = and_parts (length l.stamps == 7) (nat_le l.number 7) a.0 in
    ((eqb-true _ _ b.0, leb-true _ _ b.1), placed_from ls a.1)

placed_to : (ls : List Level) → AllByRecursion Places ls → placed ls ≡ true
placed_to [] p = refl
placed_to (l ∷ ls) p = and_from (length l.stamps == 7 && nat_le l.number 7) (placed ls) (and_from _ _ (eq-eqb _ _ p.0.0) (le-leb _ _ p.0.1)) (placed_to ls p.1)

pub parts_from : (c : Histogram) → sound c ≡ true → Parts c
unfolding sound
parts_from c e =
    let a = and_parts _ _ e in
    let b = and_parts _ _ a.1 in
    let l = and_parts _ _ b.0 in
    let f = and_parts _ _ b.1 in
    let g = and_parts _ _ f.1 in
    record { ranges = a.0; levels = eqb-true _ _ l.0; places = placed_from c.levels l.1; fills = f.0; falls = g.0; sum = leb-true _ _ g.1 }

pub parts_to : (c : Histogram) → Parts c → sound c ≡ true
unfolding sound
parts_to c s =
    and_from _ _ s.ranges (and_from _ _ (and_from _ _ (eq-eqb _ _ s.levels) (placed_to c.levels s.places))
    (and_from _ _ s.fills (and_from _ _ s.falls (le-leb _ _ s.sum))))

-- one part that fails
unsound : (c : Histogram) → (Parts c → ⊥) → sound c ≡ false
unsound c fails = ⊎_elim (λ e. absurd (fails (parts_from c e))) (λ e. e) (cases_Bool (sound c))

pub unsound_ranges : (c : Histogram) → in_range c.window c.fineness ≡ false → sound c ≡ false
unsound_ranges c e = unsound c (λ s. both_ways _ e s.ranges)

pub unsound_fills : (c : Histogram) → filled c.fineness c.fineness c.levels ≡ false → sound c ≡ false
unsound_fills c e = unsound c (λ s. both_ways _ e s.fills)

pub unsound_falls : (c : Histogram) → falling c.last (buckets c) ≡ false → sound c ≡ false
unsound_falls c e = unsound c (λ s. both_ways _ e s.falls)

pub unsound_sum : (c : Histogram) → 4095 < total (buckets c) → sound c ≡ false
unsound_sum c e = unsound c (λ s. omega (arith, s.sum))

-- the sizes of a sound histogram's buckets
pub shaped : (c : Histogram) → Parts c → Shaped c.fineness 1 0 (buckets c)
shaped c s = shaped_levels c.fineness c.levels (ranges_from c.window c.fineness s.ranges).some_fineness s.places s.fills

-- the test decides what a sound histogram is
pub sound_decided : (c : Histogram) → Decides (sound c) (Sound c)
sound_decided c = (
  (λ e. let s = parts_from c e in
      let r = ranges_from c.window c.fineness s.ranges in
      record {
        some_window = r.some_window;
        window_fits = r.window_fits;
        some_fineness = r.some_fineness;
        fineness_fits = r.fineness_fits;
        twelve_levels = s.levels;
        seven_places = s.places;
        sound_buckets = sound_buckets c.fineness c.last (buckets c) r.some_fineness (shaped c s) s.sum s.falls;
      }),
  (λ s. parts_to c (record {
    ranges = ranges_to c.window c.fineness s.some_window s.window_fits s.some_fineness s.fineness_fits;
    levels = s.twelve_levels;
    places = s.seven_places;
    fills = sound_filled c.fineness c.last c.levels s.seven_places s.sound_buckets;
    falls = s.sound_buckets.stamps_never_rise;
    sum = s.sound_buckets.sum_bounded;
  })),
)

pub low_sound : (c : Histogram) (t v : ℕ) → sound c ≡ true → low_at c t v ≡ least (live_buckets t v (buckets c))
low_sound c t v e = cond-true (sound c) _ _ e

pub high_sound : (c : Histogram) (t v : ℕ) → sound c ≡ true → high_at c t v ≡ most (live_buckets t v (buckets c))
high_sound c t v e = cond-true (sound c) _ _ e

-- a pass to the end reads a sound histogram where the sum may be, and no other
pub pass_reads : (c : Histogram) (t v : ℕ) (a : Tally) → in_range c.window c.fineness ≡ true → length c.levels ≡ 12 → Passed c.fineness c.last t v c.levels a → Reads c t v (then_some (nat_le a.sum 4095) (a.low, a.high))
pass_reads c t v a ranges twelve p =
    let of : Bool → Type 0 = λ b. Reads c t v (then_some b (a.low, a.high)) in
    ⊎_elim
    (λ (y : nat_le a.sum 4095 ≡ true).
    let e : sound c ≡ true = parts_to c (record { ranges = ranges; levels = twelve; places = p.places; fills = p.fills; falls = p.tells.falls; sum = omega (arith, leb-true a.sum 4095 y, p.tells.sum) }) in
    subst of (sym y) (e, p.tells.low ∙ sym (low_sound c t v e), p.tells.high ∙ sym (high_sound c t v e)))
    (λ (n : nat_le a.sum 4095 ≡ false). subst of (sym n) (unsound_sum c (omega (arith, leb-false a.sum 4095 n, p.tells.sum))))
    (cases_Bool (nat_le a.sum 4095))

-- a reading tells whether the histogram is sound, and low and high
pub reads_sound : (c : Histogram) (t v : ℕ) (r : Option (ℕ × ℕ)) → Reads c t v r → is_some r ≡ sound c
reads_sound c t v None e = sym e
reads_sound c t v (Some pair) e = sym e.0

pub reads_pair : (c : Histogram) (t v : ℕ) (r : Option (ℕ × ℕ)) → Reads c t v r → ((unwrap_or r (0, 0)).0 ≡ low_at c t v) × ((unwrap_or r (0, 0)).1 ≡ high_at c t v)
reads_pair c t v None e = (sym (cond-false (sound c) _ _ e), sym (cond-false (sound c) _ _ e))
reads_pair c t v (Some pair) e = (e.1, e.2)

-- what a count gives, by the live buckets
pub counts : (c : Histogram) (t v : ℕ) (pair : ℕ × ℕ) → pair.0 ≡ low_at c t v → pair.1 ≡ high_at c t v → Counts c t v pair
counts c t v pair low high =
    let unfit : (Sound c → ⊥) → sound c ≡ false = λ not. ⊎_elim (λ e. absurd (not ((sound_decided c).0 e))) (λ e. e) (cases_Bool (sound c)) in
    record {
      low = λ s. low ∙ low_sound c t v ((sound_decided c).1 s);
      high = λ s. high ∙ high_sound c t v ((sound_decided c).1 s);
      low_of_unsound = λ not. low ∙ cond-false (sound c) _ _ (unfit not);
      high_of_unsound = λ not. high ∙ cond-false (sound c) _ _ (unfit not);
    }
