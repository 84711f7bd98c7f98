-- Histograms keep the rules of a window counter, and an arrival leaves a sound one sound.
use Rattle.std.specs.Prelude.{◌≡◌, ℕ, zero, suc, ◌+◌, ◌-◌, ◌*◌, ◌<◌, ◌≤◌, min, max, true, false, List, [], ◌∷◌, ◌++◌, reverse, length, replicate, nat_le, refl}
use Rattle.std.proofs.Common.{sym, ap, subst, ◌∙◌, ⊎_elim, arith, mul-zero}
use Rattle.std.specs.List.{AllByRecursion}
use Rattle.std.proofs.lemmas.List.{length_push, reverse-append}
use Rattle.std.proofs.lemmas.Bool.{both_ways, and_parts, and_from, le-leb, eqb-true, eq-eqb, cases_Bool, cond-false}
use Rattle.window.specs.Stamps.{ascending, newest_stamp}
use Rattle.window.specs.Meaning.{Keeps, Permitted, Between, Fresh}
use Rattle.window.specs.Faults.{Arrived}
use Rattle.window.proofs.Arrivals.{ascends_push, last_push}
use Rattle.window.proofs.NewestFirst.{Down, down_reverse, live_reverse}
use Rattle.histogram.specs.declared.Histogram.{Histogram}
use Rattle.histogram.specs.Buckets.{Bucket, bucket, total, live_buckets, most, after_arrival}
use Rattle.histogram.specs.Rules.{SoundBuckets, Taken}
use Rattle.histogram.specs.Histograms.{empty_level, new_histogram, buckets, Places, Sound, may_follow, filled, sound, low_at, high_at, cut, stands_for, histogram_model, advanced, Arrives}
use Rattle.histogram.specs.Sizes.{settle_ahead, total_settle, most_is_total, near}
use Rattle.histogram.specs.Cuts.{falling_raise, falling_live, shaped_live, total_live, live_settle, falling_settle, high_bounds, low_bounds, cut_live, cut_push, cut_settle}
use Rattle.histogram.specs.Merging.{sound_buckets, arrival_by_the_rule}
use Rattle.histogram.specs.Soundness.{Parts, parts_from, parts_to, ranges_from, ranges_to, shaped, sound_decided, low_sound, high_sound}

-- the parts of `stands_for`
record Standing (c : Histogram) (xs : List ℕ) : Type 0 where
  fit : sound c ≡ true
  many : length xs ≡ c.taken
  ascends : ascending xs ≡ true
  ends : newest_stamp xs ≡ c.last
  cuts : cut c.last c.window (buckets c) (reverse xs) ≡ true

standing_from : (c : Histogram) (xs : List ℕ) → stands_for c xs ≡ true → Standing c xs
standing_from c xs e =
    let a = and_parts _ _ e in
    let b = and_parts _ _ a.1 in
    let d = and_parts _ _ b.1 in
    let f = and_parts _ _ d.1 in
    record { fit = a.0; many = eqb-true _ _ b.0; ascends = d.0; ends = eqb-true _ _ f.0; cuts = f.1 }

standing_to : (c : Histogram) (xs : List ℕ) → Standing c xs → stands_for c xs ≡ true
standing_to c xs s =
    and_from _ _ s.fit (and_from _ _ (eq-eqb _ _ s.many) (and_from _ _ s.ascends (and_from _ _ (eq-eqb _ _ s.ends) s.cuts)))

-- the arrivals, newest first
newest_first : (c : Histogram) (xs : List ℕ) → Standing c xs → Down c.last 0 (reverse xs)
newest_first c xs s = subst (λ z. Down z 0 (reverse xs)) s.ends (down_reverse 0 xs s.ascends)

lies_between : (c : Histogram) (t v : ℕ) → Permitted c.last c.window t v → Between histogram_model c t v (low_at c t v) (high_at c t v)
lies_between c t v p xs e =
    let s = standing_from c xs e in
    let h = parts_from c s.fit in
    let low = low_bounds t v c.last c.window 0 p.in_time p.within c.last (buckets c) (reverse xs) (omega arith) h.falls (newest_first c xs s) s.cuts in
    let high = high_bounds t v c.last c.window 0 p.in_time p.within c.last (buckets c) (reverse xs) (omega arith) h.falls (newest_first c xs s) s.cuts in (
      omega (arith, low, low_sound c t v s.fit, live_reverse t v xs),
      omega (arith, high, high_sound c t v s.fit, most_is_total (live_buckets t v (buckets c)), live_reverse t v xs),
    )

estimates_near : (c : Histogram) (t v : ℕ) → Permitted c.last c.window t v → c.fineness * (high_at c t v - low_at c t v) ≤ low_at c t v
estimates_near c t v p =
    ⊎_elim
    (λ e. let h = parts_from c e in
    let n = near c.fineness (live_buckets t v (buckets c)) (shaped_live t v c.last c.fineness 1 0 (buckets c) p.in_time h.falls (shaped c h)) in
    rw (low_sound c t v e, high_sound c t v e) n)
    (λ e. let l : low_at c t v ≡ 0 = cond-false (sound c) _ _ e in let h : high_at c t v ≡ 0 = cond-false (sound c) _ _ e in
    rw (l, h) (omega (arith, mul-zero c.fineness)))
    (cases_Bool (sound c))

high_bounded : (c : Histogram) (t v : ℕ) → high_at c t v ≤ 8190
high_bounded c t v =
    ⊎_elim
    (λ e. omega (arith, high_sound c t v e, most_is_total (live_buckets t v (buckets c)), total_live t v (buckets c), (parts_from c e).sum))
    (λ e. let h : high_at c t v ≡ 0 = cond-false (sound c) _ _ e in omega arith)
    (cases_Bool (sound c))

pub keeps : Keeps histogram_model
keeps = record {
  list_ascends = λ c xs e. (standing_from c xs e).ascends;
  list_has_taken = λ c xs e. (standing_from c xs e).many;
  list_ends_with_last = λ c xs e. (standing_from c xs e).ends;
  count_lies_between = lies_between;
  estimates_near = estimates_near;
  high_bounded = λ c t v p. high_bounded c t v;
  limit_least = λ c. omega arith;
  limit_most = λ c. omega arith;
}

-- levels without a bucket
none_placed : (n : ℕ) → AllByRecursion Places (replicate n empty_level)
none_placed zero = tt
none_placed (suc n) = ((refl, omega arith), none_placed n)

none_fills : (m k n : ℕ) → filled m k (replicate n empty_level) ≡ true
none_fills m k zero = refl
none_fills m k (suc n) = and_from (may_follow m k 0) (filled m 0 (replicate n empty_level)) (and_from (nat_le 0 (m + 1)) true (le-leb 0 (m + 1) (omega arith)) refl) (none_fills m 0 n)

-- a new histogram stands for the empty list
pub new_stands : (w m : ℕ) → 1 ≤ w → w ≤ 4294967295 → 1 ≤ m → m ≤ 6 → stands_for (new_histogram w m) [] ≡ true
new_stands w m a b d e =
    let c : Histogram = new_histogram w m in
    let s : Parts c = record { ranges = ranges_to w m a b d e; levels = refl; places = none_placed 12; fills = none_fills m m 12; falls = refl; sum = omega arith } in
    standing_to c [] (record { fit = parts_to c s; many = refl; ascends = refl; ends = refl; cuts = refl })

pub stands_sound : (c : Histogram) (xs : List ℕ) → stands_for c xs ≡ true → Sound c
stands_sound c xs e = (sound_decided c).0 (standing_from c xs e).fit

-- a new histogram tells what it was made with, stands for the empty list, and is sound
pub makes : (w m : ℕ) (c : Histogram) → w ≤ 4294967295 → c ≡ new_histogram (max 1 w) (max 1 (min 6 m)) → Fresh histogram_model w m c × Sound c
makes w m c fits e =
    let empty : stands_for c [] ≡ true = ap (λ z. stands_for z []) e ∙ new_stands (max 1 w) (max 1 (min 6 m)) (omega arith) (omega arith) (omega arith) (omega arith) in (
      record { window = ap (λ z. z.window) e; fineness = ap (λ z. z.fineness) e; stands_for_empty = empty; last = ap (λ z. z.last) e; taken = ap (λ z. z.taken) e },
      stands_sound c [] empty,
    )

-- how many arrivals are live at most, as a sum
pub live_sum : (c : Histogram) (t v : ℕ) → sound c ≡ true → total (live_buckets t v (buckets c)) ≡ high_at c t v
live_sum c t v e = sym (high_sound c t v e ∙ most_is_total (live_buckets t v (buckets c)))

-- what the code leaves: the levels of a sound histogram hold the buckets of the rule, and others stay
pub record Moves (c d : Histogram) (t : ℕ) : Type 0 where
  pub window : d.window ≡ c.window
  pub fineness : d.fineness ≡ c.fineness
  pub last : d.last ≡ t
  pub taken : d.taken ≡ c.taken + 1
  pub levels : sound c ≡ true → (length d.levels ≡ 12) × AllByRecursion Places d.levels × (buckets d ≡ after_arrival c.fineness c.window t (buckets c))
  pub others : sound c ≡ false → d.levels ≡ c.levels

stays_sound : (c d : Histogram) (t : ℕ) → c.last ≤ t → high_at c t c.window < 4095 → Moves c d t → sound c ≡ true → Sound d
stays_sound c d t after room k e =
    let s = parts_from c e in
    let r = ranges_from c.window c.fineness s.ranges in
    let n = k.levels e in
    let live : List Bucket = live_buckets t c.window (buckets c) in
    let sizes = settle_ahead c.fineness 1 0 (bucket 1 t) live r.some_fineness (omega arith) refl (omega arith) (shaped_live t c.window c.last c.fineness 1 0 (buckets c) after s.falls (shaped c s)) in
    let holds = sound_buckets c.fineness t (after_arrival c.fineness c.window t (buckets c)) r.some_fineness sizes
    (omega (arith, total_settle c.fineness 1 (bucket 1 t) live, live_sum c t c.window e))
    (falling_settle c.fineness 1 t (bucket 1 t) live (omega arith) (falling_live t c.window t (buckets c) (falling_raise c.last t (buckets c) after s.falls))) in
    let same : SoundBuckets d.fineness d.last (buckets d) = rw (k.fineness, k.last, n.2) holds in
    record {
      some_window = omega (arith, k.window, r.some_window);
      window_fits = omega (arith, k.window, r.window_fits);
      some_fineness = omega (arith, k.fineness, r.some_fineness);
      fineness_fits = omega (arith, k.fineness, r.fineness_fits);
      twelve_levels = n.0;
      seven_places = n.1;
      sound_buckets = same;
    }

-- all that an arrival leaves is live, and holds one arrival more
one_more_live : (c d : Histogram) (t : ℕ) → Moves c d t → sound c ≡ true → Sound d → high_at d t c.window ≡ high_at c t c.window + 1
one_more_live c d t k e s =
    let w : ℕ = c.window in
    let live : List Bucket = live_buckets t w (buckets c) in
    let all = live_settle t w c.fineness (buckets c) (ranges_from w c.fineness (parts_from c e).ranges).some_window in
    high_sound d t w ((sound_decided d).1 s) ∙ ap (λ z. most (live_buckets t w z)) (k.levels e).2 ∙ ap most all ∙ most_is_total (after_arrival c.fineness w t (buckets c))
    ∙ omega (arith, total_settle c.fineness 1 (bucket 1 t) live, live_sum c t w e)

pub arrives : (c d : Histogram) (t : ℕ) → c.last ≤ t → high_at c t c.window < 4095 → Moves c d t → Arrives c d t
arrives c d t after room k =
    let test : Sound c → sound c ≡ true = (sound_decided c).1 in
    record {
      window = k.window;
      fineness = k.fineness;
      last = k.last;
      taken = k.taken;
      stays_sound = λ s. stays_sound c d t after room k (test s);
      by_the_rule = λ s. let h = parts_from c (test s) in
          subst (Taken c.fineness c.window t (buckets c)) (sym (k.levels (test s)).2) (arrival_by_the_rule c.fineness c.window t c.last (buckets c) s.some_fineness after h.falls (shaped c h));
      buckets_after = λ s. (k.levels (test s)).2;
      one_more_live = λ s. one_more_live c d t k (test s) (stays_sound c d t after room k (test s));
      levels_kept = λ not. k.others (⊎_elim (λ e. absurd (not ((sound_decided c).0 e))) (λ e. e) (cases_Bool (sound c)));
    }

-- a stamp that comes to what is not sound moves only the last stamp and the number taken
pub advances : (c : Histogram) (t : ℕ) → c.last ≤ t → sound c ≡ false → Arrives c (advanced c t) t
advances c t after e =
    arrives c (advanced c t) t after (omega (arith, cond-false (sound c) (most (live_buckets t c.window (buckets c))) 0 e))
    (record { window = refl; fineness = refl; last = refl; taken = refl; levels = λ y. absurd (both_ways (sound c) e y); others = λ _. refl })

-- each list that was stood for has t at its end
grown : (c d : Histogram) (t : ℕ) → c.last ≤ t → Arrives c d t → (xs : List ℕ) → stands_for c xs ≡ true → stands_for d (xs ++ (t ∷ [])) ≡ true
grown c d t after k xs st =
    let s = standing_from c xs st in
    let h = parts_from c s.fit in
    let is_sound = (sound_decided c).0 s.fit in
    let live : List Bucket = live_buckets t c.window (buckets c) in
    let left = cut_live t c.last c.window 0 after c.last (buckets c) (reverse xs) (omega arith) h.falls (newest_first c xs s) s.cuts in
    let cuts = cut_settle t c.window c.fineness 1 (bucket 1 t) live (t ∷ reverse xs) (cut_push t c.window live (reverse xs) left) in
    standing_to d (xs ++ (t ∷ [])) (record {
      fit = (sound_decided d).1 (k.stays_sound is_sound);
      many = omega (arith, length_push xs t, k.taken, s.many);
      ascends = ascends_push 0 xs t s.ascends (omega (arith, s.ends));
      ends = last_push 0 xs t ∙ sym k.last;
      cuts = rw (k.last, k.window, k.buckets_after is_sound, reverse-append xs (t ∷ [])) cuts;
    })

pub arrived : (c d : Histogram) (t : ℕ) → c.last ≤ t → Arrives c d t → Arrived histogram_model c d t
arrived c d t after k = record { grown = grown c d t after k; settings = record { window = k.window; fineness = k.fineness; limit = refl } }
