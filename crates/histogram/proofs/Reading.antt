-- The tally of buckets, one bucket more.
use Rattle.std.proofs.Common.{◌≡◌, ℕ, ◌+◌, ◌*◌, ◌<◌, ◌≤◌, true, false, ◌&&◌, leb, List, [], ◌∷◌, ◌++◌, map, length, get_or, take, drop, Some, None, sym, refl, ap, ◌∙◌, subst, ⊎_elim, mul-le-mul_right, add-mul, one-mul, arith}
use Rattle.std.proofs.lemmas.List.{append-nil, append_assoc, map-append, map_more, take-append-drop, drop_more}
use Rattle.std.proofs.lemmas.List.Elements.{filter-append}
use Rattle.std.proofs.lemmas.Bool.{and_from, and_left, and_right, le-leb, lt-leb, cases_Bool, cond-true, cond-false, cond_both}
use Rattle.window.specs.Stamps.{is_live}
use Rattle.histogram.specs.declared.tally.Tally.{Tally}
use Rattle.histogram.specs.Buckets.{Bucket, bucket, total, falling, live_buckets, other_sizes, least, most}
use Rattle.histogram.specs.Readings.{oldest_stamp, Tells, Widened, GoesOn}
use Rattle.histogram.specs.Sizes.{most_is_total}
use Rattle.histogram.specs.Filling.{falling_append}

total_push : (bs : List Bucket) (b : Bucket) → total (bs ++ (b ∷ [])) ≡ total bs + b.size
total_push [] b = omega arith
total_push (d ∷ bs) b = omega (arith, total_push bs b)

others_push : (c : ℕ) (bs : List Bucket) (b : Bucket) → other_sizes c (bs ++ (b ∷ [])) ≡ c + total bs
others_push c [] b = omega arith
others_push c (d ∷ bs) b = omega (arith, others_push d.size bs b)

least_push : (bs : List Bucket) (b : Bucket) → least (bs ++ (b ∷ [])) ≡ total bs + 1
least_push [] b = refl
least_push (d ∷ bs) b = omega (arith, others_push d.size bs b)

oldest_push : (top : ℕ) (bs : List Bucket) (b : Bucket) → oldest_stamp top (bs ++ (b ∷ [])) ≡ b.stamp
oldest_push top [] b = refl
oldest_push top (d ∷ bs) b = oldest_push d.stamp bs b

live_push_yes : (t v : ℕ) (bs : List Bucket) (b : Bucket) → is_live t v b.stamp ≡ true → live_buckets t v (bs ++ (b ∷ [])) ≡ live_buckets t v bs ++ (b ∷ [])
live_push_yes t v bs b e = filter-append (λ d. is_live t v d.stamp) bs (b ∷ []) ∙ ap (λ z. live_buckets t v bs ++ z) (cond-true (is_live t v b.stamp) _ _ e)

live_push_no : (t v : ℕ) (bs : List Bucket) (b : Bucket) → is_live t v b.stamp ≡ false → live_buckets t v (bs ++ (b ∷ [])) ≡ live_buckets t v bs
live_push_no t v bs b e = filter-append (λ d. is_live t v d.stamp) bs (b ∷ []) ∙ ap (λ z. live_buckets t v bs ++ z) (cond-false (is_live t v b.stamp) _ _ e) ∙ append-nil (live_buckets t v bs)

pub tells_more : (t v last size stamp : ℕ) (bs : List Bucket) (a d : Tally) → Tells t v last bs a → stamp ≤ a.top → Widened t v size stamp a d → Tells t v last (bs ++ (bucket size stamp ∷ [])) d
tells_more t v last size stamp bs a d k le w =
    let b : Bucket = bucket size stamp in
    let live : List Bucket = live_buckets t v bs in
    let sum = most_is_total live in
    record {
      falls = falling_append last bs (b ∷ []) ∙ and_from (falling last bs) (leb stamp (oldest_stamp last bs) && true) k.falls (and_from _ _ (le-leb _ _ (omega (arith, k.top))) refl);
      top = w.top ∙ sym (oldest_push last bs b);
      sum = omega (arith, w.sum, k.sum, total_push bs b);
      low = ⊎_elim
          (λ e. omega (arith, w.low ∙ cond-true (is_live t v stamp) (a.high + 1) a.low e, ap least (live_push_yes t v bs b e), least_push live b, sum, k.high))
          (λ e. w.low ∙ cond-false (is_live t v stamp) (a.high + 1) a.low e ∙ k.low ∙ sym (ap least (live_push_no t v bs b e)))
          (cases_Bool (is_live t v stamp));
      high = ⊎_elim
          (λ e. omega (arith, w.high ∙ cond-true (is_live t v stamp) (a.high + size) a.high e, ap most (live_push_yes t v bs b e), most_is_total (live ++ (b ∷ [])), total_push live b, sum, k.high))
          (λ e. w.high ∙ cond-false (is_live t v stamp) (a.high + size) a.high e ∙ k.high ∙ sym (ap most (live_push_no t v bs b e)))
          (cases_Bool (is_live t v stamp));
    }

-- a stamp above the oldest one rises
pub rises : (t v last : ℕ) (bs : List Bucket) (a : Tally) (b : Bucket) (rest : List Bucket) → Tells t v last bs a → a.top < b.stamp → falling last (bs ++ (b ∷ rest)) ≡ false
rises t v last bs a b rest k lt =
    falling_append last bs (b ∷ rest) ∙ and_right (falling last bs) (leb b.stamp (oldest_stamp last bs) && falling b.stamp rest) (and_left _ _ (lt-leb b.stamp (oldest_stamp last bs) (omega (arith, k.top))))

-- buckets of one size, up to place i
pub reading_more : (t v size i : ℕ) (xs : List ℕ) (a d e : Tally) → i < length xs → GoesOn t v (map (bucket size) (take i xs)) a (Some d) → get_or xs i 0 ≤ d.top → Widened t v size (get_or xs i 0) d e → GoesOn t v (map (bucket size) (take (i + 1) xs)) a (Some e)
reading_more t v size i xs a d e inside on le w last front k =
    let one : front ++ map (bucket size) (take (i + 1) xs) ≡ (front ++ map (bucket size) (take i xs)) ++ (bucket size (get_or xs i 0) ∷ []) =
    ap (λ z. front ++ z) (map_more (bucket size) xs i 0 inside) ∙ sym (append_assoc front (map (bucket size) (take i xs)) (bucket size (get_or xs i 0) ∷ [])) in
    subst (λ z. Tells t v last z e) (sym one) (tells_more t v last size (get_or xs i 0) (front ++ map (bucket size) (take i xs)) d e (on last front k) le w)

pub reading_rises : (t v size i : ℕ) (xs : List ℕ) (a d : Tally) → i < length xs → GoesOn t v (map (bucket size) (take i xs)) a (Some d) → d.top < get_or xs i 0 → GoesOn t v (map (bucket size) xs) a None
reading_rises t v size i xs a d inside on lt last front k =
    let whole : map (bucket size) xs ≡ map (bucket size) (take i xs) ++ (bucket size (get_or xs i 0) ∷ map (bucket size) (drop (i + 1) xs)) =
    sym (ap (map (bucket size)) (take-append-drop i xs)) ∙ map-append (bucket size) (take i xs) (drop i xs) ∙ ap (λ z. map (bucket size) (take i xs) ++ map (bucket size) z) (drop_more xs i 0 inside) in
    ap (λ z. falling last (front ++ z)) whole ∙ ap (falling last) (sym (append_assoc front (map (bucket size) (take i xs)) (bucket size (get_or xs i 0) ∷ map (bucket size) (drop (i + 1) xs))))
    ∙ rises t v last (front ++ map (bucket size) (take i xs)) d (bucket size (get_or xs i 0)) (map (bucket size) (drop (i + 1) xs)) (on last front k) lt

-- high is within the sum
pub high_within : (t v size stamp : ℕ) (a d : Tally) → Widened t v size stamp a d → a.high ≤ a.sum → d.high ≤ d.sum
high_within t v size stamp a d w h =
    cond_both (is_live t v stamp) (a.high + size) a.high (λ z. d.high ≡ z → d.high ≤ d.sum) (λ _ e. omega (arith, w.sum)) (λ _ e. omega (arith, w.sum)) w.high

-- the sizes of i buckets, and of one more, are those of 7 at most
pub size_more : (i size : ℕ) → i < 7 → (i * size + size ≡ (i + 1) * size) × ((i + 1) * size ≤ 7 * size)
size_more i size h = (omega (arith, add-mul i 1 size, one-mul size), mul-le-mul_right size (let k : i + 1 ≤ 7 = omega arith in k))
