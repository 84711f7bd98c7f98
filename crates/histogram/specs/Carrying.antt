-- An arrival carried through the levels is the arrival settled among the buckets.
use Rattle.std.specs.Prelude.{◌≡◌, ℕ, zero, suc, ◌+◌, ◌*◌, ◌^◌, ◌<◌, ◌≤◌, List, [], ◌∷◌, ◌++◌, map, length, get_or, take, drop, Some, None, slice_index, slice_index_or, slice_set, refl}
use Rattle.std.proofs.Common.{sym, ap, subst, ◌∙◌, arith, add-one}
use Rattle.std.specs.List.{AllByRecursion}
use Rattle.std.proofs.lemmas.List.{append-nil, append_assoc, drop_more, drop-drop, drop-set-lt, length-set, length-take-le, take_more_set, set_split, get_or-drop}
use Rattle.std.proofs.ByRecursion.{All-set, All-get_or}
use Rattle.histogram.specs.declared.levels.Level.{Level}
use Rattle.histogram.specs.Buckets.{Bucket, bucket, total, settle}
use Rattle.histogram.specs.Rules.{Climbing}
use Rattle.histogram.specs.Histograms.{in_use, level_buckets, buckets_from, Places, Inserted}
use Rattle.histogram.specs.Sizes.{settle_merge, settle_more, settle_next}
use Rattle.histogram.specs.Merging.{double_power}
use Rattle.histogram.specs.Filling.{in_use_length}

climbing_lower : (lo s : ℕ) (bs : List Bucket) → lo ≤ s → Climbing s bs → Climbing lo bs
climbing_lower lo s [] h c = tt
climbing_lower lo s (b ∷ bs) h c = (omega (arith, c.0), c.1)

climbing_run : (lo s : ℕ) (xs : List ℕ) (rest : List Bucket) → lo ≤ s → Climbing s rest → Climbing lo (map (bucket s) xs ++ rest)
climbing_run lo s [] rest h c = climbing_lower lo s rest h c
climbing_run lo s (x ∷ xs) rest h c = (h, climbing_run s s xs rest (omega arith) c)

-- sizes of levels never fall
climbing_from : (s : ℕ) (ls : List Level) → Climbing s (buckets_from s ls)
climbing_from s [] = tt
climbing_from s (l ∷ ls) = climbing_run s s (in_use l) (buckets_from (2 * s) ls) (omega arith) (climbing_lower s (2 * s) (buckets_from (2 * s) ls) (omega arith) (climbing_from (2 * s) ls))

-- a level with room for one more
settle_run : (m s n h : ℕ) (xs : List ℕ) (rest : List Bucket) → 0 < s → n + length xs ≤ m + 1 → Climbing (2 * s) rest → settle m n (bucket s h) (map (bucket s) xs ++ rest) ≡ bucket s h ∷ (map (bucket s) xs ++ rest)
settle_run m s n h [] [] pos few c = refl
settle_run m s n h [] (b ∷ bs) pos few c = settle_next m n (bucket s h) b bs (λ e. omega (arith, c.0))
settle_run m s n h (x ∷ xs) rest pos few c =
    settle_more m n (bucket s h) (bucket s x) (map (bucket s) xs ++ rest) refl (omega arith)
    ∙ ap (λ z. bucket s h ∷ z) (settle_run m s (n + 1) x xs rest pos (omega arith) c)

-- a full level: the two oldest become one of double size
settle_full : (m s n h k : ℕ) (xs : List ℕ) (rest : List Bucket) → length xs ≡ k + 1 → n + k ≡ m + 1 → settle m n (bucket s h) (map (bucket s) xs ++ rest) ≡ map (bucket s) (take k (h ∷ xs)) ++ settle m 1 (bucket (2 * s) (slice_index (h ∷ xs) k)) rest
settle_full m s n h k [] rest long e = absurd (omega arith)
settle_full m s n h zero (x ∷ []) rest long e = settle_merge m n (bucket s h) (bucket s x) rest refl (omega arith)
settle_full m s n h zero (x ∷ (y ∷ xs)) rest long e = absurd (omega arith)
settle_full m s n h (suc k) (x ∷ xs) rest long e =
    settle_more m n (bucket s h) (bucket s x) (map (bucket s) xs ++ rest) refl (let some : 0 < length xs = omega arith in omega arith)
    ∙ ap (λ z. bucket s h ∷ z) (settle_full m s (n + 1) x k xs rest (omega arith) (omega arith))

-- the buckets of levels, one part after the other
pub buckets_append : (i : ℕ) (ls ks : List Level) → buckets_from (2 ^ i) (ls ++ ks) ≡ buckets_from (2 ^ i) ls ++ buckets_from (2 ^ (i + length ls)) ks
buckets_append i [] ks = ap (λ z. buckets_from (2 ^ z) ks) (let e : i ≡ i + 0 = omega arith in e)
buckets_append i (l ∷ ls) ks =
    let twice = double_power (2 ^ i) i refl in
    let e : (i + 1) + length ls ≡ i + suc (length ls) = omega arith in
    ap (λ z. level_buckets (2 ^ i) l ++ z) (
    ap (λ z. buckets_from z (ls ++ ks)) twice ∙ buckets_append (i + 1) ls ks ∙ ap (λ z. buckets_from (2 ^ (i + 1)) ls ++ buckets_from (2 ^ z) ks) e ∙ sym (ap (λ z. buckets_from z ls ++ buckets_from (2 ^ (i + suc (length ls))) ks) twice))
    ∙ sym (append_assoc (level_buckets (2 ^ i) l) (buckets_from (2 * 2 ^ i) ls) (buckets_from (2 ^ (i + suc (length ls))) ks))

-- the buckets of the first j levels, and of the others
pub buckets_after : (j : ℕ) (front rest : List Level) → length front ≡ j → buckets_from 1 (front ++ rest) ≡ buckets_from 1 front ++ buckets_from (2 ^ j) rest
buckets_after j front rest long = buckets_append 0 front rest ∙ ap (λ z. buckets_from 1 front ++ buckets_from (2 ^ z) rest) (let e : 0 + length front ≡ j = omega arith in e)

-- the buckets of one level more
pub buckets_more : (j : ℕ) (front : List Level) (l : Level) → length front ≡ j → buckets_from 1 (front ++ (l ∷ [])) ≡ buckets_from 1 front ++ level_buckets (2 ^ j) l
buckets_more j front l long = buckets_after j front (l ∷ []) long ∙ ap (λ z. buckets_from 1 front ++ z) (append-nil (level_buckets (2 ^ j) l))

total_append : (bs ds : List Bucket) → total (bs ++ ds) ≡ total bs + total ds
total_append [] ds = omega arith
total_append (b ∷ bs) ds = omega (arith, total_append bs ds)

total_two : (s : ℕ) (xs : List ℕ) → 2 ≤ length xs → 2 * s ≤ total (map (bucket s) xs)
total_two s [] h = absurd (omega arith)
total_two s (x ∷ []) h = absurd (omega arith)
total_two s (x ∷ (y ∷ xs)) h = omega arith

-- the levels before j are full and changed, the arrival has become a bucket of their next size with stamp a
pub record Carried (m t : ℕ) (start now : List Level) (j a : ℕ) : Type 0 where
  pub rest : drop j now ≡ drop j start
  pub long : length now ≡ length start
  pub places : AllByRecursion Places now
  pub same : settle m 1 (bucket 1 t) (buckets_from 1 start) ≡ buckets_from 1 (take j now) ++ settle m 1 (bucket (2 ^ j) a) (buckets_from (2 ^ j) (drop j start))
  pub sum : total (buckets_from (2 ^ j) (drop j start)) + 2 * 2 ^ j ≤ total (buckets_from 1 start) + 2

module _ (m t : ℕ) (start now : List Level) (j a : ℕ) (c : Carried m t start now j a) (inside : j < length start) (d : Level) where
  pub level_same : get_or now j d ≡ slice_index_or start j d
  level_same =
      let e : j + 0 ≡ j = omega arith in
      sym (ap (λ z. get_or now z d) e) ∙ sym (get_or-drop j now 0 d) ∙ ap (λ z. get_or z 0 d) c.rest ∙ get_or-drop j start 0 d ∙ ap (λ z. get_or start z d) e

  here : buckets_from (2 ^ j) (drop j start) ≡ level_buckets (2 ^ j) (slice_index_or now j d) ++ buckets_from (2 ^ (j + 1)) (drop (j + 1) start)
  here =
      ap (buckets_from (2 ^ j)) (drop_more start j d inside)
      ∙ ap (λ z. level_buckets (2 ^ j) (slice_index_or start j d) ++ buckets_from z (drop (j + 1) start)) (double_power (2 ^ j) j refl)
      ∙ ap (λ z. level_buckets (2 ^ j) z ++ buckets_from (2 ^ (j + 1)) (drop (j + 1) start)) (sym level_same)

  rest_after : drop (j + 1) now ≡ drop (j + 1) start
  rest_after = sym (drop-drop 1 j now) ∙ ap (drop 1) c.rest ∙ drop-drop 1 j start

  fits : Places (slice_index_or now j d)
  fits = All-get_or Places now j d (omega (arith, c.long)) c.places

  front_length : length (take j now) ≡ j
  front_length = length-take-le j now (omega (arith, c.long))

  -- the level was full: the arrival goes on as a bucket of double size
  pub carried_more : (l : Level) (b : ℕ) → 0 < m → Places l → Inserted m a (slice_index_or now j d) l (Some b) → Carried m t start (slice_set now j l) (j + 1) b
  carried_more l b some places i =
      let old : Level = get_or now j d in
      let tail : List Bucket = buckets_from (2 ^ (j + 1)) (drop (j + 1) start) in
      let long = in_use_length old fits in
      let full = settle_full m (2 ^ j) 1 a m (in_use old) tail (omega (arith, i.0)) (omega arith) in
      let twice = double_power (2 ^ j) j refl in
      let step : settle m 1 (bucket (2 ^ j) a) (buckets_from (2 ^ j) (drop j start)) ≡ level_buckets (2 ^ j) l ++ settle m 1 (bucket (2 ^ (j + 1)) b) tail =
      ap (settle m 1 (bucket (2 ^ j) a)) here ∙ full ∙ ap (λ z. map (bucket (2 ^ j)) z ++ settle m 1 (bucket (2 * 2 ^ j) (slice_index (a ∷ in_use old) m)) tail) (sym i.1)
      ∙ ap (λ z. level_buckets (2 ^ j) l ++ settle m 1 (bucket (2 * 2 ^ j) z) tail) (sym i.2) ∙ ap (λ z. level_buckets (2 ^ j) l ++ settle m 1 (bucket z b) tail) twice in
      let wider : buckets_from 1 (take (j + 1) (slice_set now j l)) ≡ buckets_from 1 (take j now) ++ level_buckets (2 ^ j) l =
      ap (buckets_from 1) (take_more_set now j l (omega (arith, c.long))) ∙ buckets_more j (take j now) l front_length in
      record {
        rest = drop-set-lt (j + 1) now j l (omega arith) ∙ rest_after;
        long = length-set now j l ∙ c.long;
        places = All-set Places now j l places c.places;
        same = c.same ∙ ap (λ z. buckets_from 1 (take j now) ++ z) step
            ∙ sym (append_assoc (buckets_from 1 (take j now)) (level_buckets (2 ^ j) l) (settle m 1 (bucket (2 ^ (j + 1)) b) tail))
            ∙ sym (ap (λ z. z ++ settle m 1 (bucket (2 ^ (j + 1)) b) tail) wider);
        sum = omega (arith, c.sum, ap total here, total_append (level_buckets (2 ^ j) old) tail, total_two (2 ^ j) (in_use old) (omega (arith, i.0)), twice);
      }

  -- the level had room: the arrival stays there
  pub carried_done : (l : Level) → Inserted m a (slice_index_or now j d) l None → 0 < 2 ^ j → buckets_from 1 (slice_set now j l) ≡ settle m 1 (bucket 1 t) (buckets_from 1 start)
  carried_done l i pos =
      let old : Level = get_or now j d in
      let tail : List Bucket = buckets_from (2 ^ (j + 1)) (drop (j + 1) start) in
      let long = in_use_length old fits in
      let twice = double_power (2 ^ j) j refl in
      let climbs : Climbing (2 * 2 ^ j) tail = subst (λ z. Climbing z tail) (sym twice) (climbing_from (2 ^ (j + 1)) (drop (j + 1) start)) in
      let step : settle m 1 (bucket (2 ^ j) a) (buckets_from (2 ^ j) (drop j start)) ≡ level_buckets (2 ^ j) l ++ tail =
      ap (settle m 1 (bucket (2 ^ j) a)) here ∙ settle_run m (2 ^ j) 1 a (in_use old) tail pos (omega (arith, i.0)) climbs
      ∙ ap (λ z. map (bucket (2 ^ j)) z ++ tail) (sym i.1) in
      let whole : buckets_from 1 (slice_set now j l) ≡ buckets_from 1 (take j now) ++ (level_buckets (2 ^ j) l ++ tail) =
      ap (buckets_from 1) (set_split now j l (omega (arith, c.long))) ∙ buckets_after j (take j now) (l ∷ drop (suc j) now) front_length
      ∙ ap (λ z. buckets_from 1 (take j now) ++ (level_buckets (2 ^ j) l ++ buckets_from z (drop (suc j) now))) twice
      ∙ ap (λ z. buckets_from 1 (take j now) ++ (level_buckets (2 ^ j) l ++ buckets_from (2 ^ (j + 1)) z)) (ap (λ z. drop z now) (sym (add-one j)) ∙ rest_after) in
      whole ∙ sym (ap (λ z. buckets_from 1 (take j now) ++ z) step) ∙ sym c.same

-- twelve full levels would hold more than there is
pub carried_never : (m t : ℕ) (start now : List Level) (j a : ℕ) → Carried m t start now j a → j ≡ 12 → total (buckets_from 1 start) < 4095 → ⊥
carried_never m t start now j a c e few = let big : 2 ^ j ≡ 4096 = ap (λ z. 2 ^ z) e in omega (arith, c.sum)
