-- One pass over the levels tells whether they are sound, and what they count.
use Rattle.std.specs.Prelude.{◌≡◌, ℕ, ◌+◌, ◌*◌, ◌^◌, ◌<◌, ◌≤◌, true, false, ◌&&◌, ◌||◌, List, ◌++◌, map, length, get_or, take, drop, Some, None, ◌==◌, nat_le, slice_index_or}
use Rattle.std.proofs.Common.{sym, ap, subst, ◌∙◌, arith}
use Rattle.std.specs.List.{AllByRecursion}
use Rattle.std.proofs.lemmas.List.{take_more, take_all, take-append-drop, length-take-le, at_drop_more, at_drop_all}
use Rattle.std.proofs.ByRecursion.{All-more}
use Rattle.std.proofs.lemmas.Bool.{and_parts, and_left, leb-true}
use Rattle.histogram.specs.declared.levels.Level.{Level}
use Rattle.histogram.specs.declared.tally.Tally.{Tally}
use Rattle.histogram.specs.Buckets.{bucket, falling}
use Rattle.histogram.specs.Readings.{oldest_stamp, Tells, GoesOn}
use Rattle.histogram.specs.Histograms.{in_use, buckets_from, Places, may_follow, filled}
use Rattle.histogram.specs.Merging.{double_power}
use Rattle.histogram.specs.Filling.{falling_append}
use Rattle.histogram.specs.Carrying.{buckets_after, buckets_more}

-- the first j levels are read: a is the tally of their buckets, and size and before are for the next one
pub record Pass (m last t v : ℕ) (ls : List Level) (j : ℕ) (a : Tally) (size before : ℕ) : Type 0 where
  pub tells : Tells t v last (buckets_from 1 (take j ls)) a
  pub power : size ≡ 2 ^ j
  pub places : AllByRecursion Places (take j ls)
  pub fills : filled m m ls ≡ filled m before (drop j ls)
  pub high : a.high ≤ a.sum
  pub sum : a.sum + 7 ≤ 7 * size

module _ (m last t v : ℕ) (ls : List Level) (j : ℕ) (a : Tally) (size before : ℕ) (p : Pass m last t v ls j a size before) (d : Level) (inside : j < length ls) where
  front_length : length (take j ls) ≡ j
  front_length = length-take-le j ls (omega arith)

  -- the buckets read once this level is
  read_too : buckets_from 1 (take (j + 1) ls) ≡ buckets_from 1 (take j ls) ++ map (bucket size) (in_use (slice_index_or ls j d))
  read_too =
      ap (buckets_from 1) (take_more ls j d inside) ∙ buckets_more j (take j ls) (slice_index_or ls j d) front_length
      ∙ ap (λ z. buckets_from 1 (take j ls) ++ map (bucket z) (in_use (slice_index_or ls j d))) (sym p.power)

  pub pass_more : (e : Tally) → Places (slice_index_or ls j d) → may_follow m before (get_or ls j d).number ≡ true → GoesOn t v (map (bucket size) (in_use (slice_index_or ls j d))) a (Some e) → e.high ≤ e.sum → e.sum ≤ a.sum + 7 * size → Pass m last t v ls (j + 1) e (size * 2) (get_or ls j d).number
  pass_more e places may on high sum = record {
    tells = subst (λ z. Tells t v last z e) (sym read_too) (on last (buckets_from 1 (take j ls)) p.tells);
    power = (let twice : size * 2 ≡ 2 * size = omega arith in twice) ∙ double_power size j p.power;
    places = All-more Places ls j d inside p.places places;
    fills = p.fills ∙ at_drop_more (filled m before) ls j d inside ∙ ap (λ z. z && filled m (get_or ls j d).number (drop (j + 1) ls)) may;
    high = high;
    sum = omega (arith, p.sum);
  }

  -- a stamp that rises in this level
  pub pass_rises : GoesOn t v (map (bucket size) (in_use (slice_index_or ls j d))) a None → falling last (buckets_from 1 ls) ≡ false
  pass_rises on =
      let long : length (take (j + 1) ls) ≡ j + 1 = length-take-le (j + 1) ls (omega arith) in
      let whole : buckets_from 1 ls ≡ buckets_from 1 (take (j + 1) ls) ++ buckets_from (2 ^ (j + 1)) (drop (j + 1) ls) =
      ap (buckets_from 1) (sym (take-append-drop (j + 1) ls)) ∙ buckets_after (j + 1) (take (j + 1) ls) (drop (j + 1) ls) long in
      let front : falling last (buckets_from 1 (take (j + 1) ls)) ≡ false = ap (falling last) read_too ∙ on last (buckets_from 1 (take j ls)) p.tells in
      ap (falling last) whole ∙ falling_append last (buckets_from 1 (take (j + 1) ls)) (buckets_from (2 ^ (j + 1)) (drop (j + 1) ls))
      ∙ and_left (falling last (buckets_from 1 (take (j + 1) ls))) (falling (oldest_stamp last (buckets_from 1 (take (j + 1) ls))) (buckets_from (2 ^ (j + 1)) (drop (j + 1) ls))) front

  -- a level that may not follow
  pub pass_misfits : may_follow m before (get_or ls j d).number ≡ false → filled m m ls ≡ false
  pass_misfits e = p.fills ∙ at_drop_more (filled m before) ls j d inside ∙ and_left (may_follow m before (get_or ls j d).number) (filled m (get_or ls j d).number (drop (j + 1) ls)) e

-- all levels are read
pub record Passed (m last t v : ℕ) (ls : List Level) (a : Tally) : Type 0 where
  pub tells : Tells t v last (buckets_from 1 ls) a
  pub places : AllByRecursion Places ls
  pub fills : filled m m ls ≡ true

pub pass_all : (m last t v : ℕ) (ls : List Level) (j : ℕ) (a : Tally) (size before : ℕ) → Pass m last t v ls j a size before → length ls ≤ j → Passed m last t v ls a
pass_all m last t v ls j a size before p end =
    let all = take_all j ls end in record {
      tells = subst (λ z. Tells t v last (buckets_from 1 z) a) all p.tells;
      places = subst (AllByRecursion Places) all p.places;
      fills = p.fills ∙ at_drop_all (filled m before) ls j end;
    }

-- a level that may follow has places for its buckets
pub follows_placed : (m k n : ℕ) → m ≤ 6 → may_follow m k n ≡ true → n ≤ 7
follows_placed m k n fine e = omega (arith, leb-true n (m + 1) (and_parts (nat_le n (m + 1)) (n == 0 || nat_le m k) e).0)
