-- Levels as buckets: numbers of buckets that may follow each other are what sound buckets have, and dropping the dead leaves the live.
use Rattle.std.specs.Prelude.{◌≡◌, ℕ, suc, ◌+◌, ◌*◌, ◌^◌, ◌<◌, ◌≤◌, max, true, ◌&&◌, ◌||◌, List, [], ◌∷◌, ◌++◌, map, length, take, ◌==◌, ◌≢◌, nat_le, slice_index_or, refl}
use Rattle.std.proofs.Common.{sym, ap, subst, ◌∙◌, ⊎_elim, arith}
use Rattle.std.proofs.Math.Bool.{and_assoc}
use Rattle.std.specs.List.{AllByRecursion}
use Rattle.std.proofs.lemmas.List.{length-take-le}
use Rattle.std.proofs.lemmas.List.Elements.{filter-append}
use Rattle.std.proofs.lemmas.Bool.{and_parts, and_from, or_cases, or_left, or_right, leb-true, le-leb, eqb-true, eq-eqb, cases_eq}
use Rattle.window.specs.Stamps.{is_live}
use Rattle.histogram.specs.declared.levels.Level.{Level}
use Rattle.histogram.specs.Buckets.{Bucket, bucket, falling, live_buckets}
use Rattle.histogram.specs.Rules.{how_many, largest, SoundBuckets}
use Rattle.histogram.specs.Readings.{oldest_stamp}
use Rattle.histogram.specs.Histograms.{in_use, level_buckets, buckets_from, Places, Trimmed, may_follow, filled}
use Rattle.histogram.specs.Sizes.{Shaped, end, more, next}
use Rattle.histogram.specs.Cuts.{falls}
use Rattle.histogram.specs.Merging.{many_yes, many_no, many_append, double_power}

pub in_use_length : (l : Level) → Places l → length (in_use l) ≡ l.number
in_use_length l p = length-take-le l.number l.stamps (omega (arith, p.0, p.1))

-- buckets of one size, before others
shaped_run : (m s n : ℕ) (xs : List ℕ) (rest : List Bucket) → n + length xs ≤ m + 1 → Shaped m s (n + length xs) rest → Shaped m s n (map (bucket s) xs ++ rest)
shaped_run m s n [] rest h r = subst (λ k. Shaped m s k rest) (let e : n + 0 ≡ n = omega arith in e) r
shaped_run m s n (x ∷ xs) rest h r =
    let e : n + suc (length xs) ≡ (n + 1) + length xs = omega arith in
    more refl (omega arith) (shaped_run m s (n + 1) xs rest (omega arith) (subst (λ k. Shaped m s k rest) e r))

-- the next size
shaped_next : (m s k : ℕ) (xs : List ℕ) (rest : List Bucket) → m ≤ k → 0 < length xs → length xs ≤ m + 1 → Shaped m (2 * s) (length xs) rest → Shaped m s k (map (bucket (2 * s)) xs ++ rest)
shaped_next m s k [] rest l some few r = absurd (omega arith)
shaped_next m s k (x ∷ xs) rest l some few r =
    let e : suc (length xs) ≡ 1 + length xs = omega arith in
    next refl l (shaped_run m (2 * s) 1 xs rest (omega arith) (subst (λ z. Shaped m (2 * s) z rest) e r))

-- the parts of `filled`
record Filled (m k : ℕ) (l : Level) (ls : List Level) : Type 0 where
  few : l.number ≤ m + 1
  after : (l.number ≢ 0) → m ≤ k
  rest : filled m l.number ls ≡ true

filled_parts : (m k : ℕ) (l : Level) (ls : List Level) → filled m k (l ∷ ls) ≡ true → Filled m k l ls
filled_parts m k l ls e =
    let p = and_parts (may_follow m k l.number) (filled m l.number ls) e in
    let q = and_parts (nat_le l.number (m + 1)) (l.number == 0 || nat_le m k) p.0 in
    record {
      few = leb-true _ _ q.0;
      after = λ some. ⊎_elim (λ z. absurd (some (eqb-true _ _ z))) (λ z. leb-true m k z) (or_cases (l.number == 0) (nat_le m k) q.1);
      rest = p.1;
    }

-- a level with no buckets adds none
level_none : (s : ℕ) (l : Level) (ls : List Level) → l.number ≡ 0 → buckets_from s (l ∷ ls) ≡ buckets_from (2 * s) ls
level_none s l ls e = ap (λ n. map (bucket s) (take n l.stamps) ++ buckets_from (2 * s) ls) e

-- after a level with no buckets there are none
none_after : (m s : ℕ) (ls : List Level) → 0 < m → filled m 0 ls ≡ true → buckets_from s ls ≡ []
none_after m s [] some e = refl
none_after m s (l ∷ ls) some e =
    let p = filled_parts m 0 l ls e in
    ⊎_elim
    (λ (z : l.number ≡ 0). level_none s l ls z ∙ none_after m (2 * s) ls some (ap (λ n. filled m n ls) (sym z) ∙ p.rest))
    (λ (z : l.number ≡ 0 → ⊥). absurd (omega (arith, p.after z)))
    (cases_eq l.number 0)

shaped_after : (m s k : ℕ) (ls : List Level) → 0 < m → AllByRecursion Places ls → filled m k ls ≡ true → Shaped m s k (buckets_from (2 * s) ls)
shaped_after m s k [] some places e = end
shaped_after m s k (l ∷ ls) some places e =
    let p = filled_parts m k l ls e in
    let long = in_use_length l places.0 in
    ⊎_elim
    (λ (z : l.number ≡ 0).
    let none : buckets_from (2 * s) (l ∷ ls) ≡ [] = level_none (2 * s) l ls z ∙ none_after m (2 * (2 * s)) ls some (ap (λ n. filled m n ls) (sym z) ∙ p.rest) in
    subst (Shaped m s k) (sym none) end)
    (λ (z : l.number ≡ 0 → ⊥).
    let some_here : 0 < length (in_use l) = (let d : l.number ≡ 0 → ⊥ = z in omega arith) in
    shaped_next m s k (in_use l) (buckets_from (2 * (2 * s)) ls) (p.after z) some_here (omega (arith, p.few))
    (subst (λ n. Shaped m (2 * s) n (buckets_from (2 * (2 * s)) ls)) (sym long) (shaped_after m (2 * s) l.number ls some places.1 p.rest)))
    (cases_eq l.number 0)

-- levels that are filled as they may be hold buckets of the right sizes
pub shaped_levels : (m : ℕ) (ls : List Level) → 0 < m → AllByRecursion Places ls → filled m m ls ≡ true → Shaped m 1 0 (buckets_from 1 ls)
shaped_levels m [] some places e = end
shaped_levels m (l ∷ ls) some places e =
    let p = filled_parts m m l ls e in
    let long = in_use_length l places.0 in
    let n : 0 + length (in_use l) ≡ l.number = omega arith in
    shaped_run m 1 0 (in_use l) (buckets_from 2 ls) (omega (arith, p.few))
    (subst (λ z. Shaped m 1 z (buckets_from 2 ls)) (sym n) (shaped_after m 1 l.number ls some places.1 p.rest))

-- each level has m + 1 buckets at most
pub levels_few : (m k : ℕ) (ls : List Level) → filled m k ls ≡ true → AllByRecursion (λ l. l.number ≤ m + 1) ls
levels_few m k [] e = tt
levels_few m k (l ∷ ls) e = let p = filled_parts m k l ls e in (p.few, levels_few m l.number ls p.rest)

-- how many buckets of each size a level has
many_here : (s : ℕ) (xs : List ℕ) → how_many s (map (bucket s) xs) ≡ length xs
many_here s [] = refl
many_here s (x ∷ xs) = many_yes s (bucket s x) (map (bucket s) xs) refl ∙ omega (arith, many_here s xs)

many_else : (x s : ℕ) (xs : List ℕ) → (s ≢ x) → how_many x (map (bucket s) xs) ≡ 0
many_else x s [] ne = refl
many_else x s (y ∷ xs) ne = many_no x (bucket s y) (map (bucket s) xs) ne ∙ omega (arith, many_else x s xs ne)

many_below : (x s : ℕ) (ls : List Level) → x < s → how_many x (buckets_from s ls) ≡ 0
many_below x s [] h = refl
many_below x s (l ∷ ls) h =
    many_append x (level_buckets s l) (buckets_from (2 * s) ls)
    ∙ omega (arith, many_else x s (in_use l) (λ e. omega arith), many_below x (2 * s) ls (omega arith))

largest_append : (bs ds : List Bucket) → largest (bs ++ ds) ≡ max (largest bs) (largest ds)
largest_append [] ds = omega arith
largest_append (b ∷ bs) ds = omega (arith, largest_append bs ds)

largest_run : (s : ℕ) (xs : List ℕ) → 0 < length xs → s ≤ largest (map (bucket s) xs)
largest_run s [] h = absurd (omega arith)
largest_run s (x ∷ xs) h = omega arith

largest_none : (s : ℕ) (xs : List ℕ) → length xs ≡ 0 → largest (map (bucket s) xs) ≡ 0
largest_none s [] h = refl
largest_none s (x ∷ xs) h = absurd (omega arith)

largest_from : (s : ℕ) (ls : List Level) → 0 < largest (buckets_from s ls) → s ≤ largest (buckets_from s ls)
largest_from s [] h = absurd (omega arith)
largest_from s (l ∷ ls) h =
    let both = largest_append (level_buckets s l) (buckets_from (2 * s) ls) in
    ⊎_elim
    (λ (z : length (in_use l) ≡ 0). let k : 0 < largest (buckets_from (2 * s) ls) = omega (arith, both, largest_none s (in_use l) z) in
    omega (arith, both, largest_from (2 * s) ls k))
    (λ (z : length (in_use l) ≡ 0 → ⊥). let k : 0 < length (in_use l) = omega arith in omega (arith, both, largest_run s (in_use l) k))
    (cases_eq (length (in_use l)) 0)

-- levels from size s on, after one of k buckets, are as the rules say
record Follows (m s k : ℕ) (ls : List Level) : Type 0 where
  crowded : (x : ℕ) → s ≤ x → how_many x (buckets_from s ls) ≤ m + 1
  before : 0 < largest (buckets_from s ls) → m ≤ k
  skipped : (j : ℕ) → s ≤ 2 ^ j → 2 ^ j < largest (buckets_from s ls) → m ≤ how_many (2 ^ j) (buckets_from s ls)

filled_by : (m s i k : ℕ) (ls : List Level) → 0 < s → s ≡ 2 ^ i → AllByRecursion Places ls → Follows m s k ls → filled m k ls ≡ true
filled_by m s i k [] pos power places f = refl
filled_by m s i k (l ∷ ls) pos power places f =
    let rest : List Bucket = buckets_from (2 * s) ls in
    let long = in_use_length l places.0 in
    let both = largest_append (level_buckets s l) rest in
    let many : (x : ℕ) → how_many x (buckets_from s (l ∷ ls)) ≡ how_many x (level_buckets s l) + how_many x rest = λ x. many_append x (level_buckets s l) rest in
    let here : how_many s (buckets_from s (l ∷ ls)) ≡ l.number = many s ∙ omega (arith, many_here s (in_use l), many_below s (2 * s) ls (omega arith)) in
    let above : (x : ℕ) → 2 * s ≤ x → how_many x (buckets_from s (l ∷ ls)) ≡ how_many x rest = λ x h. many x ∙ omega (arith, many_else x s (in_use l) (λ e. omega arith)) in
    let may : may_follow m k l.number ≡ true = and_from (nat_le l.number (m + 1)) (l.number == 0 || nat_le m k) (le-leb _ _ (omega (arith, f.crowded s (omega arith)))) (⊎_elim
    (λ (z : l.number ≡ 0). or_left (l.number == 0) (nat_le m k) (eq-eqb _ _ z))
    (λ (z : l.number ≡ 0 → ⊥). let some : 0 < length (in_use l) = (let d : l.number ≡ 0 → ⊥ = z in omega arith) in
    or_right (l.number == 0) (nat_le m k) (le-leb m k (f.before (omega (arith, both, largest_run s (in_use l) some)))))
    (cases_eq l.number 0)) in
    and_from _ _ may (filled_by m (2 * s) (i + 1) l.number ls (omega arith) (double_power s i power) places.1 (record {
      crowded = λ x h. omega (arith, f.crowded x (omega arith), above x h);
      before = λ h. let big : s < largest (buckets_from s (l ∷ ls)) = omega (arith, both, largest_from (2 * s) ls h) in
          let enough : m ≤ how_many s (buckets_from s (l ∷ ls)) = subst (λ z. m ≤ how_many z (buckets_from s (l ∷ ls))) (sym power) (f.skipped i (omega arith) (omega arith)) in
          omega arith;
      skipped = λ j h g. omega (arith, f.skipped j (omega arith) (omega (arith, both)), above (2 ^ j) h);
    }))

-- levels that hold sound buckets are filled as they may be
pub sound_filled : (m last : ℕ) (ls : List Level) → AllByRecursion Places ls → SoundBuckets m last (buckets_from 1 ls) → filled m m ls ≡ true
sound_filled m last ls places s = filled_by m 1 0 m ls (omega arith) refl places (record {
  crowded = λ x h. s.no_size_crowded x;
  before = λ h. omega arith;
  skipped = λ j h g. s.no_size_skipped j g;
})

-- stamps fall over two lists when they fall over each, the second from the oldest stamp of the first
pub falling_append : (top : ℕ) (bs ds : List Bucket) → falling top (bs ++ ds) ≡ (falling top bs && falling (oldest_stamp top bs) ds)
falling_append top [] ds = refl
falling_append top (b ∷ bs) ds =
    ap (λ z. nat_le b.stamp top && z) (falling_append b.stamp bs ds) ∙ sym (and_assoc (nat_le b.stamp top) (falling b.stamp bs) (falling (oldest_stamp b.stamp bs) ds))

pub oldest_falls : (top : ℕ) (bs : List Bucket) → falling top bs ≡ true → oldest_stamp top bs ≤ top
oldest_falls top [] f = omega arith
oldest_falls top (b ∷ bs) f = let p = falls top b bs f in omega (arith, p.head, oldest_falls b.stamp bs p.tail)

-- over all levels, the live buckets are left
pub live_levels : (t v : ℕ) (ls new : List Level) → length new ≡ length ls → ((k : ℕ) (d : Level) → k < length ls → Trimmed t v (slice_index_or ls k d) (slice_index_or new k d)) → (s top : ℕ) → top ≤ t → falling top (buckets_from s ls) ≡ true → buckets_from s new ≡ live_buckets t v (buckets_from s ls)
live_levels t v [] [] long each s top h f = refl
live_levels t v [] (n ∷ new) long each s top h f = absurd (omega arith)
live_levels t v (l ∷ ls) [] long each s top h f = absurd (omega arith)
live_levels t v (l ∷ ls) (n ∷ new) long each s top h f =
    let p = and_parts (falling top (level_buckets s l)) (falling (oldest_stamp top (level_buckets s l)) (buckets_from (2 * s) ls)) (sym (falling_append top (level_buckets s l) (buckets_from (2 * s) ls)) ∙ f) in
    let here = each 0 l (omega arith) s top h p.0 in
    let rest = live_levels t v ls new (omega arith) (λ k d i. each (suc k) d (omega arith)) (2 * s) (oldest_stamp top (level_buckets s l)) (omega (arith, oldest_falls top (level_buckets s l) p.0)) p.1 in
    ap (λ z. z ++ buckets_from (2 * s) new) here ∙ ap (λ z. live_buckets t v (level_buckets s l) ++ z) rest
    ∙ sym (filter-append (λ b. is_live t v b.stamp) (level_buckets s l) (buckets_from (2 * s) ls))
