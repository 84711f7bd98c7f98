-- Where stamps never rise, dropping dead ones from the old end leaves the live ones.
use Rattle.std.proofs.Common.{◌≡◌, ℕ, zero, suc, ◌+◌, ◌-◌, ◌<◌, ◌≤◌, Bool, true, false, not, List, [], ◌∷◌, ◌++◌, map, length, get_or, take, filter, sym, refl, ap, ◌∙◌, ⊎_elim, add-one, arith}
use Rattle.std.specs.List.{suffix_len}
use Rattle.std.proofs.lemmas.List.{append-nil, take-take}
use Rattle.std.proofs.lemmas.List.Elements.{filter_more}
use Rattle.std.proofs.lemmas.List.Sums.{suffix_len-take_yes, suffix_len-take_no}
use Rattle.std.proofs.lemmas.Bool.{cases_Bool, cond-true, cond-false}
use Rattle.window.specs.Stamps.{is_live}
use Rattle.window.proofs.Arrivals.{later_live}
use Rattle.histogram.specs.declared.levels.Level.{Level}
use Rattle.histogram.specs.Buckets.{bucket, falling, live_buckets}
use Rattle.histogram.specs.Histograms.{in_use, Trimmed}
use Rattle.histogram.specs.Cuts.{falls, falling_cons}

-- a dead one at the end is not kept
pub kept_shorter : (p : ℕ → Bool) (xs : List ℕ) (n : ℕ) → n < length xs → p (get_or xs n 0) ≡ false → filter p (take (n + 1) xs) ≡ filter p (take n xs)
kept_shorter p xs n inside e = filter_more p xs n 0 inside ∙ ap (λ z. filter p (take n xs) ++ z) (cond-false (p (get_or xs n 0)) _ _ e) ∙ append-nil _

-- the live buckets of one size are those of the live stamps
live_run : (t v s : ℕ) (xs : List ℕ) → live_buckets t v (map (bucket s) xs) ≡ map (bucket s) (filter (is_live t v) xs)
live_run t v s [] = refl
live_run t v s (x ∷ xs) =
    ⊎_elim
    (λ e. cond-true (is_live t v x) _ _ e ∙ ap (λ z. bucket s x ∷ z) (live_run t v s xs) ∙ sym (ap (map (bucket s)) (cond-true (is_live t v x) (x ∷ filter (is_live t v) xs) (filter (is_live t v) xs) e)))
    (λ e. cond-false (is_live t v x) _ _ e ∙ live_run t v s xs ∙ sym (ap (map (bucket s)) (cond-false (is_live t v x) (x ∷ filter (is_live t v) xs) (filter (is_live t v) xs) e)))
    (cases_Bool (is_live t v x))

falling_take : (top s k : ℕ) (xs : List ℕ) → falling top (map (bucket s) xs) ≡ true → falling top (map (bucket s) (take k xs)) ≡ true
falling_take top s zero xs f = refl
falling_take top s (suc k) [] f = refl
falling_take top s (suc k) (x ∷ xs) f =
    let p = falls top (bucket s x) (map (bucket s) xs) f in
    falling_cons top (bucket s x) (map (bucket s) (take k xs)) p.head (falling_take x s k xs p.tail)

-- a later one is no newer
later_older : (top s n : ℕ) (xs : List ℕ) → n < length xs → falling top (map (bucket s) (take (suc n) xs)) ≡ true → get_or xs n 0 ≤ top
later_older top s n [] inside f = absurd (omega arith)
later_older top s zero (x ∷ xs) inside f = (falls top (bucket s x) [] f).head
later_older top s (suc n) (x ∷ xs) inside f =
    let p = falls top (bucket s x) (map (bucket s) (take (suc n) xs)) f in
    omega (arith, p.head, later_older x s n xs (omega arith) p.tail)

-- where the oldest is live, all are
front_kept : (t v s top n : ℕ) (xs : List ℕ) → n < length xs → top ≤ t → falling top (map (bucket s) (take (suc n) xs)) ≡ true → is_live t v (get_or xs n 0) ≡ true → filter (is_live t v) (take (suc n) xs) ≡ take (suc n) xs
front_kept t v s top n [] inside h f e = absurd (omega arith)
front_kept t v s top zero (x ∷ xs) inside h f e = cond-true (is_live t v x) _ _ e
front_kept t v s top (suc n) (x ∷ xs) inside h f e =
    let p = falls top (bucket s x) (map (bucket s) (take (suc n) xs)) f in
    let l : is_live t v x ≡ true = later_live t v (get_or xs n 0) x e (later_older x s n xs (omega arith) p.tail) (omega (arith, p.head)) in
    cond-true (is_live t v x) _ _ l ∙ ap (λ z. x ∷ z) (front_kept t v s x n xs (omega arith) (omega (arith, p.head)) p.tail e)

-- the dead are gone from the old end, and the oldest left is live
pub record Trimming (t v : ℕ) (xs : List ℕ) (n k : ℕ) : Type 0 where
  pub same : filter (is_live t v) (take k xs) ≡ filter (is_live t v) (take n xs)
  pub oldest : 0 < k → is_live t v (get_or xs (k - 1) 0) ≡ true

trimming : (t v n k : ℕ) (xs : List ℕ) → n ≤ length xs → k ≡ n - suffix_len (λ s. not (is_live t v s)) (take n xs) → Trimming t v xs n k
trimming t v zero k xs within e =
    let none : k ≡ 0 = omega arith in
    record { same = ap (λ z. filter (is_live t v) (take z xs)) none; oldest = λ some. absurd (omega arith) }
trimming t v (suc m) k xs within e =
    let dead : ℕ → Bool = λ s. not (is_live t v s) in
    let back : suc m - 1 ≡ m = omega arith in
    let at : get_or xs (suc m - 1) 0 ≡ get_or xs m 0 = ap (λ z. get_or xs z 0) back in
    ⊎_elim
    (λ (y : is_live t v (get_or xs m 0) ≡ true).
    let none : suffix_len dead (take (suc m) xs) ≡ 0 = suffix_len-take_no dead xs (suc m) 0 (omega arith) within (ap dead at ∙ ap not y) in
    let all : k ≡ suc m = omega arith in
    record { same = ap (λ z. filter (is_live t v) (take z xs)) all; oldest = λ some. ap (λ z. is_live t v (get_or xs (z - 1) 0)) all ∙ ap (is_live t v) at ∙ y })
    (λ (d : is_live t v (get_or xs m 0) ≡ false).
    let one : suffix_len dead (take (suc m) xs) ≡ 1 + suffix_len dead (take (suc m - 1) xs) = suffix_len-take_yes dead xs (suc m) 0 (omega arith) within (ap dead at ∙ ap not d) in
    let fewer : suffix_len dead (take (suc m - 1) xs) ≡ suffix_len dead (take m xs) = ap (λ z. suffix_len dead (take z xs)) back in
    let rest = trimming t v m k xs (omega arith) (omega (arith, e, one, fewer)) in
    record { same = rest.same ∙ sym (kept_shorter (is_live t v) xs m (omega arith) d) ∙ ap (λ z. filter (is_live t v) (take z xs)) (add-one m); oldest = rest.oldest })
    (cases_Bool (is_live t v (get_or xs m 0)))

all_kept : (t v s top k : ℕ) (xs : List ℕ) → k ≤ length xs → (0 < k → is_live t v (get_or xs (k - 1) 0) ≡ true) → top ≤ t → falling top (map (bucket s) (take k xs)) ≡ true → filter (is_live t v) (take k xs) ≡ take k xs
all_kept t v s top zero xs within live h f = refl
all_kept t v s top (suc k) xs within live h f =
    let e : suc k - 1 ≡ k = omega arith in
    front_kept t v s top k xs (omega arith) h f (ap (λ z. is_live t v (get_or xs z 0)) (sym e) ∙ live (omega arith))

-- a level without the buckets that are dead from the oldest on
pub trimmed : (t v dead : ℕ) (before after : Level) → before.number ≤ length before.stamps → dead ≡ suffix_len (λ s. not (is_live t v s)) (in_use before) → after.number ≡ before.number - dead → after.stamps ≡ before.stamps → Trimmed t v before after
trimmed t v dead before after within counted left same s top h f =
    let n = before.number in
    let k = after.number in
    let xs = before.stamps in
    let r = trimming t v n k xs within (omega (arith, left, counted)) in
    let shorter : falling top (map (bucket s) (take k xs)) ≡ true = ap (λ z. falling top (map (bucket s) z)) (sym (take-take k n xs (omega arith))) ∙ falling_take top s k (take n xs) f in
    ap (λ z. map (bucket s) (take k z)) same ∙ sym (live_run t v s (take n xs) ∙ ap (map (bucket s)) (sym r.same ∙ all_kept t v s top k xs (omega arith) r.oldest h shorter))

-- the first i levels are trimmed
pub record Dropped (t v : ℕ) (start now : List Level) (i : ℕ) : Type 0 where
  pub long : length now ≡ length start
  pub done : (k : ℕ) (d : Level) → k < i → Trimmed t v (get_or start k d) (get_or now k d)
  pub rest : (k : ℕ) (d : Level) → i ≤ k → get_or now k d ≡ get_or start k d
  pub fewer : (k : ℕ) (d : Level) → (get_or now k d).number ≤ (get_or start k d).number
  pub stamps : (k : ℕ) (d : Level) → (get_or now k d).stamps ≡ (get_or start k d).stamps
