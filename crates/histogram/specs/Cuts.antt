-- Arrivals, newest first, cut into buckets: what is live lies between low and high, and an arrival keeps the cuts.
use Rattle.std.specs.Prelude.{◌≡◌, ℕ, zero, suc, ◌+◌, ◌*◌, ◌<◌, ◌≤◌, true, false, ◌&&◌, List, [], ◌∷◌, length, take, drop, ◌==◌, nat_le, refl}
use Rattle.std.proofs.Common.{sym, ap, subst, ◌∙◌, ⊎_elim, arith}
use Rattle.std.specs.List.{AllByRecursion}
use Rattle.std.proofs.ByRecursion.{kept_by_passes}
use Rattle.std.proofs.lemmas.Bool.Decides.{nat_tests}
use Rattle.std.proofs.lemmas.List.{length-take, length-drop, drop-drop}
use Rattle.std.proofs.lemmas.Bool.{and_parts, and_from, leb-true, le-leb, eqb-true, eq-eqb, cases_Bool, cond-true, cond-false, cond_both, false≢true}
use Rattle.window.specs.Stamps.{is_live, live_count}
use Rattle.window.proofs.Arrivals.{live_yes, live_no, live_split, live_le, later_live}
use Rattle.window.proofs.NewestFirst.{Down, down_drop, older_dead, down_dead, stays_dead}
use Rattle.histogram.specs.Buckets.{Bucket, bucket, total, falling, live_buckets, other_sizes, least, settle, after_arrival}
use Rattle.histogram.specs.Histograms.{begins, cut}
use Rattle.histogram.specs.Sizes.{Shaped, end, more, next}

-- where the newest is dead, all are
head_dead : (t v s top lo : ℕ) (ys : List ℕ) → top ≤ t → begins s ys ≡ true → is_live t v s ≡ false → Down top lo ys → live_count t v ys ≡ 0
head_dead t v s top lo [] h b e d = refl
head_dead t v s top lo (y ∷ ys) h b e d =
    let f : is_live t v y ≡ false = ap (is_live t v) (eqb-true y s b) ∙ e in
    live_no t v y ys f ∙ omega (arith, down_dead t v y lo ys (omega (arith, d.0)) f d.1)

head_live : (t v s : ℕ) (ys : List ℕ) → begins s ys ≡ true → is_live t v s ≡ true → 0 < live_count t v ys
head_live t v s [] b e = absurd (false≢true b)
head_live t v s (y ∷ ys) b e = omega (arith, live_yes t v y ys (ap (is_live t v) (eqb-true y s b) ∙ e))

begins_le : (s top lo n : ℕ) (ys : List ℕ) → begins s (drop n ys) ≡ true → Down top lo ys → s ≤ top
begins_le s top lo zero [] b d = absurd (false≢true b)
begins_le s top lo zero (y ∷ ys) b d = omega (arith, eqb-true y s b, d.0)
begins_le s top lo (suc n) [] b d = absurd (false≢true b)
begins_le s top lo (suc n) (y ∷ ys) b d = omega (arith, begins_le s y lo n ys b d.1, d.0)

-- what is newer than a live one is live
front_live : (t v s top lo n : ℕ) (ys : List ℕ) → top ≤ t → begins s (drop n ys) ≡ true → is_live t v s ≡ true → Down top lo ys → live_count t v (take n ys) ≡ n
front_live t v s top lo zero ys h b e d = refl
front_live t v s top lo (suc n) [] h b e d = absurd (false≢true b)
front_live t v s top lo (suc n) (y ∷ ys) h b e d =
    let f = later_live t v s y e (begins_le s y lo n ys b d.1) (omega (arith, d.0)) in
    live_yes t v y (take n ys) f ∙ omega (arith, front_live t v s y lo n ys (omega (arith, d.0)) b e d.1)

-- the stamps of buckets, one by one
pub record Falls (top : ℕ) (b : Bucket) (bs : List Bucket) : Type 0 where
  pub head : b.stamp ≤ top
  pub tail : falling b.stamp bs ≡ true

pub falls : (top : ℕ) (b : Bucket) (bs : List Bucket) → falling top (b ∷ bs) ≡ true → Falls top b bs
falls top b bs f =
    let p = and_parts (nat_le b.stamp top) (falling b.stamp bs) f in
    record { head = leb-true _ _ p.0; tail = p.1 }

pub falling_cons : (top : ℕ) (b : Bucket) (bs : List Bucket) → b.stamp ≤ top → falling b.stamp bs ≡ true → falling top (b ∷ bs) ≡ true
falling_cons top b bs l f = and_from _ _ (le-leb _ _ l) f

pub falling_raise : (top up : ℕ) (bs : List Bucket) → top ≤ up → falling top bs ≡ true → falling up bs ≡ true
falling_raise top up [] h f = refl
falling_raise top up (b ∷ bs) h f = let p = falls top b bs f in falling_cons up b bs (omega (arith, p.head)) p.tail

-- the live buckets, one by one
live_first : (t v : ℕ) (b : Bucket) (bs : List Bucket) → is_live t v b.stamp ≡ true → live_buckets t v (b ∷ bs) ≡ b ∷ live_buckets t v bs
live_first t v b bs e = cond-true (is_live t v b.stamp) _ _ e

pub none_live : (t v top : ℕ) (bs : List Bucket) → top ≤ t → is_live t v top ≡ false → falling top bs ≡ true → live_buckets t v bs ≡ []
none_live t v top [] h e f = refl
none_live t v top (b ∷ bs) h e f =
    let p = falls top b bs f in
    let g = older_dead t v top b.stamp e p.head h in
    cond-false (is_live t v b.stamp) _ _ g ∙ none_live t v b.stamp bs (omega (arith, p.head)) g p.tail

live_none : (t v top : ℕ) (b : Bucket) (bs : List Bucket) → top ≤ t → falling top (b ∷ bs) ≡ true → is_live t v b.stamp ≡ false → live_buckets t v (b ∷ bs) ≡ []
live_none t v top b bs h f e =
    let p = falls top b bs f in
    cond-false (is_live t v b.stamp) _ _ e ∙ none_live t v b.stamp bs (omega (arith, p.head)) e p.tail

pub total_live : (t v : ℕ) (bs : List Bucket) → total (live_buckets t v bs) ≤ total bs
total_live t v [] = omega arith
total_live t v (b ∷ bs) =
    let ih = total_live t v bs in
    cond_both (is_live t v b.stamp) _ _ (λ ls. total ls ≤ b.size + total bs) (λ e. omega (arith, ih)) (λ e. omega (arith, ih))

pub falling_live : (t v top : ℕ) (bs : List Bucket) → falling top bs ≡ true → falling top (live_buckets t v bs) ≡ true
falling_live t v top [] f = refl
falling_live t v top (b ∷ bs) f =
    let p = falls top b bs f in
    let ih = falling_live t v b.stamp bs p.tail in
    cond_both (is_live t v b.stamp) _ _ (λ ls. falling top ls ≡ true)
    (λ e. falling_cons top b (live_buckets t v bs) p.head ih)
    (λ e. falling_raise b.stamp top (live_buckets t v bs) p.head ih)

pub shaped_live : (t v top m s n : ℕ) (bs : List Bucket) → top ≤ t → falling top bs ≡ true → Shaped m s n bs → Shaped m s n (live_buckets t v bs)
shaped_live t v top m s n [] h f end = end
shaped_live t v top m s n (b ∷ bs) h f (more q l r) =
    let p = falls top b bs f in
    ⊎_elim
    (λ e. subst (Shaped m s n) (sym (live_first t v b bs e)) (more q l (shaped_live t v b.stamp m s (n + 1) bs (omega (arith, p.head)) p.tail r)))
    (λ e. subst (Shaped m s n) (sym (live_none t v top b bs h f e)) end)
    (cases_Bool (is_live t v b.stamp))
shaped_live t v top m s n (b ∷ bs) h f (next q l r) =
    let p = falls top b bs f in
    ⊎_elim
    (λ e. subst (Shaped m s n) (sym (live_first t v b bs e)) (next q l (shaped_live t v b.stamp m (2 * s) 1 bs (omega (arith, p.head)) p.tail r)))
    (λ e. subst (Shaped m s n) (sym (live_none t v top b bs h f e)) end)
    (cases_Bool (is_live t v b.stamp))

pub falling_settle : (m n top : ℕ) (h : Bucket) (bs : List Bucket) → h.stamp ≤ top → falling h.stamp bs ≡ true → falling top (settle m n h bs) ≡ true
falling_settle m n top h [] l f = falling_cons top h [] l refl
falling_settle m n top h (b ∷ bs) l f =
    let p = falls h.stamp b bs f in
    cond_both (b.size == h.size) _ _ (λ ls. falling top ls ≡ true)
    (λ _. cond_both (nat_le (m + 1) n) _ _ (λ ls. falling top ls ≡ true)
    (λ _. falling_settle m 1 top (bucket (2 * h.size) h.stamp) bs l (falling_raise b.stamp h.stamp bs p.head p.tail))
    (λ _. falling_cons top h (settle m (n + 1) b bs) l (falling_settle m (n + 1) h.stamp b bs p.head p.tail)))
    (λ _. falling_cons top h (b ∷ bs) l f)

-- the first part of a list that is cut so
record Parts (t w : ℕ) (b : Bucket) (bs : List Bucket) (ys : List ℕ) : Type 0 where
  newest : begins b.stamp ys ≡ true
  enough : b.size ≤ length ys
  rest : cut t w bs (drop b.size ys) ≡ true

parts_from : (t w : ℕ) (b : Bucket) (bs : List Bucket) (ys : List ℕ) → cut t w (b ∷ bs) ys ≡ true → Parts t w b bs ys
parts_from t w b bs ys c =
    let p = and_parts (begins b.stamp ys) (nat_le b.size (length ys) && cut t w bs (drop b.size ys)) c in
    let q = and_parts (nat_le b.size (length ys)) (cut t w bs (drop b.size ys)) p.1 in
    record { newest = p.0; enough = leb-true _ _ q.0; rest = q.1 }

parts_to : (t w : ℕ) (b : Bucket) (bs : List Bucket) (ys : List ℕ) → Parts t w b bs ys → cut t w (b ∷ bs) ys ≡ true
parts_to t w b bs ys p = and_from _ _ p.newest (and_from _ _ (le-leb _ _ p.enough) p.rest)

module _ (t v last w lo : ℕ) (after : last ≤ t) (within : v ≤ w) where
  pub high_bounds : (top : ℕ) (bs : List Bucket) (ys : List ℕ) → top ≤ last → falling top bs ≡ true → Down last lo ys → cut last w bs ys ≡ true → live_count t v ys ≤ total (live_buckets t v bs)
  high_bounds top [] ys a f d c = omega (arith, stays_dead t v last w lo ys after within d (eqb-true _ _ c))
  high_bounds top (b ∷ bs) ys a f d c =
      let p = falls top b bs f in
      let q = parts_from last w b bs ys c in
      let ih = high_bounds b.stamp bs (drop b.size ys) (omega (arith, p.head)) p.tail (down_drop last lo b.size ys d) q.rest in
      ⊎_elim
      (λ e. omega (arith, ap total (live_first t v b bs e), live_split t v b.size ys, live_le t v (take b.size ys), length-take b.size ys, ih))
      (λ e. omega (arith, head_dead t v b.stamp last lo ys after q.newest e d))
      (cases_Bool (is_live t v b.stamp))

  pub low_bounds : (top : ℕ) (bs : List Bucket) (ys : List ℕ) → top ≤ last → falling top bs ≡ true → Down last lo ys → cut last w bs ys ≡ true → least (live_buckets t v bs) ≤ live_count t v ys
  low_bounds top [] ys a f d c = omega arith
  low_bounds top (b ∷ []) ys a f d c =
      let q = parts_from last w b [] ys c in
      ⊎_elim
      (λ e. omega (arith, ap least (live_first t v b [] e), head_live t v b.stamp ys q.newest e))
      (λ e. omega (arith, ap least (live_none t v top b [] (omega arith) f e)))
      (cases_Bool (is_live t v b.stamp))
  low_bounds top (b ∷ (g ∷ bs)) ys a f d c =
      let p = falls top b (g ∷ bs) f in
      let q = parts_from last w b (g ∷ bs) ys c in
      let k = parts_from last w g bs (drop b.size ys) q.rest in
      let ih = low_bounds b.stamp (g ∷ bs) (drop b.size ys) (omega (arith, p.head)) p.tail (down_drop last lo b.size ys d) q.rest in
      ⊎_elim
      (λ e. ⊎_elim
      (λ i. let two : least (live_buckets t v (b ∷ (g ∷ bs))) ≡ (b.size + other_sizes g.size (live_buckets t v bs)) + 1 = ap least (live_first t v b (g ∷ bs) e ∙ ap (λ ls. b ∷ ls) (live_first t v g bs i)) in
      omega (arith, two, ap least (live_first t v g bs i), ih, live_split t v b.size ys, front_live t v g.stamp last lo b.size ys after k.newest i d))
      (λ i. let one : least (live_buckets t v (b ∷ (g ∷ bs))) ≡ 1 = ap least (live_first t v b (g ∷ bs) e ∙ ap (λ ls. b ∷ ls) (live_none t v b.stamp g bs (omega (arith, p.head)) p.tail i)) in
      omega (arith, one, head_live t v b.stamp ys q.newest e))
      (cases_Bool (is_live t v g.stamp)))
      (λ e. omega (arith, ap least (live_none t v top b (g ∷ bs) (omega arith) f e)))
      (cases_Bool (is_live t v b.stamp))

-- the buckets that stay at a later stamp still cut the arrivals
pub cut_live : (t last w lo : ℕ) → last ≤ t → (top : ℕ) (bs : List Bucket) (ys : List ℕ) → top ≤ last → falling top bs ≡ true → Down last lo ys → cut last w bs ys ≡ true → cut t w (live_buckets t w bs) ys ≡ true
cut_live t last w lo after top [] ys a f d c = eq-eqb _ _ (stays_dead t w last w lo ys after (omega arith) d (eqb-true _ _ c))
cut_live t last w lo after top (b ∷ bs) ys a f d c =
    let p = falls top b bs f in
    let q = parts_from last w b bs ys c in
    let ih = cut_live t last w lo after b.stamp bs (drop b.size ys) (omega (arith, p.head)) p.tail (down_drop last lo b.size ys d) q.rest in
    ⊎_elim
    (λ e. ap (λ ls. cut t w ls ys) (live_first t w b bs e) ∙ parts_to t w b (live_buckets t w bs) ys (record { newest = q.newest; enough = q.enough; rest = ih }))
    (λ e. ap (λ ls. cut t w ls ys) (live_none t w top b bs (omega arith) f e) ∙ eq-eqb _ _ (head_dead t w b.stamp last lo ys after q.newest e d))
    (cases_Bool (is_live t w b.stamp))

pub cut_push : (t w : ℕ) (bs : List Bucket) (ys : List ℕ) → cut t w bs ys ≡ true → cut t w (bucket 1 t ∷ bs) (t ∷ ys) ≡ true
cut_push t w bs ys c = parts_to t w (bucket 1 t) bs (t ∷ ys) (record { newest = eq-eqb t t refl; enough = omega arith; rest = c })

-- two neighbours of one size cut as one of double size does
cut_merge : (t w : ℕ) (h b : Bucket) (bs : List Bucket) (ys : List ℕ) → b.size ≡ h.size → cut t w (h ∷ (b ∷ bs)) ys ≡ true → cut t w (bucket (2 * h.size) h.stamp ∷ bs) ys ≡ true
cut_merge t w h b bs ys e c =
    let p = parts_from t w h (b ∷ bs) ys c in
    let q = parts_from t w b bs (drop h.size ys) p.rest in
    let k : h.size + b.size ≡ 2 * h.size = omega arith in
    parts_to t w (bucket (2 * h.size) h.stamp) bs ys (record {
      newest = p.newest;
      enough = omega (arith, q.enough, length-drop h.size ys);
      rest = sym (ap (cut t w bs) (drop-drop b.size h.size ys ∙ ap (λ z. drop z ys) k)) ∙ q.rest;
    })

pub cut_settle : (t w m n : ℕ) (h : Bucket) (bs : List Bucket) (ys : List ℕ) → cut t w (h ∷ bs) ys ≡ true → cut t w (settle m n h bs) ys ≡ true
cut_settle t w m n h [] ys c = c
cut_settle t w m n h (b ∷ bs) ys c =
    let p = parts_from t w h (b ∷ bs) ys c in
    cond_both (b.size == h.size) _ _ (λ ls. cut t w ls ys ≡ true)
    (λ e. cond_both (nat_le (m + 1) n) _ _ (λ ls. cut t w ls ys ≡ true)
    (λ _. cut_settle t w m 1 (bucket (2 * h.size) h.stamp) bs ys (cut_merge t w h b bs ys (eqb-true _ _ e) c))
    (λ _. parts_to t w h (settle m (n + 1) b bs) ys (record { newest = p.newest; enough = p.enough; rest = cut_settle t w m (n + 1) b bs (drop h.size ys) p.rest })))
    (λ _. c)

-- what an arrival leaves is live
settle_all : (P : ℕ → Type 0) (m n : ℕ) (h : Bucket) (bs : List Bucket) → P h.stamp → AllByRecursion (λ b. P b.stamp) bs → AllByRecursion (λ b. P b.stamp) (settle m n h bs)
settle_all P m n h [] e a = (e, tt)
settle_all P m n h (b ∷ bs) e a =
    cond_both (b.size == h.size) _ _ (AllByRecursion (λ d. P d.stamp))
    (λ _. cond_both (nat_le (m + 1) n) _ _ (AllByRecursion (λ d. P d.stamp))
    (λ _. settle_all P m 1 (bucket (2 * h.size) h.stamp) bs e a.1)
    (λ _. (e, settle_all P m (n + 1) b bs a.0 a.1)))
    (λ _. (e, a))

all_live_kept : (t v : ℕ) (bs : List Bucket) → AllByRecursion (λ b. is_live t v b.stamp ≡ true) bs → live_buckets t v bs ≡ bs
all_live_kept t v [] a = refl
all_live_kept t v (b ∷ bs) a = live_first t v b bs a.0 ∙ ap (λ ls. b ∷ ls) (all_live_kept t v bs a.1)

pub live_settle : (t w m : ℕ) (bs : List Bucket) → 1 ≤ w → live_buckets t w (after_arrival m w t bs) ≡ after_arrival m w t bs
live_settle t w m bs some =
    let new : is_live t w t ≡ true = grind (arith, nat_tests) in
    all_live_kept t w (after_arrival m w t bs) (settle_all (λ s. is_live t w s ≡ true) m 1 (bucket 1 t) (live_buckets t w bs) new (kept_by_passes (λ b. is_live t w b.stamp) bs))
