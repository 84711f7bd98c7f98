-- What is computed is what the rules say: sizes that may follow each other are sound ones, and settling merges.
use Rattle.std.specs.Prelude.{◌≡◌, ℕ, ◌+◌, ◌*◌, ◌^◌, ◌<◌, ◌≤◌, true, cond, List, [], ◌∷◌, ◌++◌, ◌==◌, ◌≢◌, refl}
use Rattle.std.proofs.Common.{sym, ap, subst, ◌∙◌, ⊎_elim, arith, add-one, pow-suc, mul_comm, pow_pos, pow_mono}
use Rattle.std.specs.List.{AllByRecursion}
use Rattle.std.proofs.lemmas.List.{append_assoc}
use Rattle.std.proofs.lemmas.List.Sums.{sum_by-cons, sum_by-append}
use Rattle.std.proofs.lemmas.Bool.{eq-eqb, ne_eqb, cases_eq, cases_lt}
use Rattle.histogram.specs.Buckets.{Bucket, bucket, total, falling, live_buckets, settle, after_arrival}
use Rattle.histogram.specs.Rules.{how_many, largest, Climbing, SoundBuckets, Merged, settled, merge, Taken}
use Rattle.histogram.specs.Sizes.{Shaped, end, more, next, settle_merge, settle_more, settle_next, settle_ahead}
use Rattle.histogram.specs.Cuts.{shaped_live}

pub many_yes : (s : ℕ) (b : Bucket) (bs : List Bucket) → b.size ≡ s → how_many s (b ∷ bs) ≡ 1 + how_many s bs
many_yes s b bs e = sum_by-cons (λ d. cond (d.size == s) 1 0) b bs ∙ ap (λ q. cond q 1 0 + how_many s bs) (eq-eqb b.size s e)

pub many_no : (s : ℕ) (b : Bucket) (bs : List Bucket) → (b.size ≢ s) → how_many s (b ∷ bs) ≡ 0 + how_many s bs
many_no s b bs e = sum_by-cons (λ d. cond (d.size == s) 1 0) b bs ∙ ap (λ q. cond q 1 0 + how_many s bs) (ne_eqb b.size s e)

pub many_append : (s : ℕ) (bs ds : List Bucket) → how_many s (bs ++ ds) ≡ how_many s bs + how_many s ds
many_append s bs ds = sum_by-append (λ d. cond (d.size == s) 1 0) bs ds

-- sizes never fall
none_below : (m s n x : ℕ) (bs : List Bucket) → 0 < s → x < s → Shaped m s n bs → how_many x bs ≡ 0
none_below m s n x [] pos h end = refl
none_below m s n x (b ∷ bs) pos h (more e l r) = many_no x b bs (λ q. omega arith) ∙ omega (arith, none_below m s (n + 1) x bs pos h r)
none_below m s n x (b ∷ bs) pos h (next e l r) = many_no x b bs (λ q. omega arith) ∙ omega (arith, none_below m (2 * s) 1 x bs (omega arith) (omega arith) r)

none_left : (m s : ℕ) (bs : List Bucket) → 0 < s → Shaped m s (m + 1) bs → how_many s bs ≡ 0
none_left m s [] pos end = refl
none_left m s (b ∷ bs) pos (more e l r) = absurd (omega arith)
none_left m s (b ∷ bs) pos (next e l r) = many_no s b bs (λ q. omega arith) ∙ omega (arith, none_below m (2 * s) 1 s bs (omega arith) (omega arith) r)

most_here : (m s n : ℕ) (bs : List Bucket) → 0 < s → n ≤ m + 1 → Shaped m s n bs → n + how_many s bs ≤ m + 1
most_here m s n [] pos h end = omega arith
most_here m s n (b ∷ bs) pos h (more e l r) = omega (arith, many_yes s b bs e, most_here m s (n + 1) bs pos (omega arith) r)
most_here m s n (b ∷ bs) pos h (next e l r) = omega (arith, many_no s b bs (λ q. omega arith), none_below m (2 * s) 1 s bs (omega arith) (omega arith) r)

most_after : (m s n x : ℕ) (bs : List Bucket) → 0 < m → 0 < s → (x ≢ s) → Shaped m s n bs → how_many x bs ≤ m + 1
most_after m s n x [] some pos ne end = omega arith
most_after m s n x (b ∷ bs) some pos ne (more e l r) = omega (arith, many_no x b bs (λ q. ne (sym q ∙ e)), most_after m s (n + 1) x bs some pos ne r)
most_after m s n x (b ∷ bs) some pos ne (next e l r) =
    ⊎_elim
    (λ (q : x ≡ 2 * s). let k = most_here m (2 * s) 1 bs (omega arith) (omega arith) r in omega (arith, many_yes x b bs (e ∙ sym q), ap (λ z. how_many z bs) q, k))
    (λ (q : x ≡ 2 * s → ⊥). omega (arith, many_no x b bs (λ z. q (sym z ∙ e)), most_after m (2 * s) 1 x bs some (omega arith) q r))
    (cases_eq x (2 * s))

no_size_crowded : (m : ℕ) (bs : List Bucket) → 0 < m → Shaped m 1 0 bs → (s : ℕ) → how_many s bs ≤ m + 1
no_size_crowded m bs some r s =
    ⊎_elim
    (λ (q : s ≡ 1). omega (arith, ap (λ z. how_many z bs) q, most_here m 1 0 bs (omega arith) (omega arith) r))
    (λ q. most_after m 1 0 s bs some (omega arith) q r)
    (cases_eq s 1)

-- the steps of the rule
module _ (m : ℕ) (some : 0 < m) (after : List Bucket) (rest : (s : ℕ) → how_many s after ≤ m + 1) where
  stop : (bs : List Bucket) → bs ≡ after → Merged m bs after
  stop bs e = subst (λ z. Merged m z after) (sym e) (settled rest)

  mutual
    ahead_merged : (s n : ℕ) (front : List Bucket) (h : Bucket) (bs : List Bucket) → 0 < s → h.size ≡ s → n ≤ m → how_many s front ≡ n → ((x : ℕ) → s < x → how_many x front ≡ 0) → front ++ settle m (n + 1) h bs ≡ after → Shaped m s n bs → Merged m (front ++ (h ∷ bs)) after
    ahead_merged s n front h [] pos eh few has none e end = stop (front ++ (h ∷ [])) e
    ahead_merged s n front h (b ∷ bs) pos eh few has none e (more q l r) =
        ⊎_elim
        (λ (k : n ≡ m).
        let full : Shaped m s (m + 1) bs = subst (λ z. Shaped m s (z + 1) bs) k r in
        let twice : how_many s (h ∷ (b ∷ bs)) ≡ 2 = many_yes s h (b ∷ bs) eh ∙ omega (arith, many_yes s b bs q, none_left m s bs pos full) in
        merge front bs h b (q ∙ sym eh)
        (subst (λ z. how_many z (front ++ (h ∷ (b ∷ bs))) ≡ m + 2) (sym eh) (omega (arith, many_append s front (h ∷ (b ∷ bs)), twice)))
        (subst (λ z. how_many z bs ≡ 0) (sym eh) (none_left m s bs pos full))
        (merged_on s front (bucket (2 * h.size) h.stamp) bs pos (omega arith) none (sym (ap (λ ls. front ++ ls) (settle_merge m (n + 1) h b bs (q ∙ sym eh) (omega arith))) ∙ e) full))
        (λ (k : n ≡ m → ⊥).
        let lt : n + 1 ≤ m = omega arith in
        subst (λ z. Merged m z after) (append_assoc front (h ∷ []) (b ∷ bs))
        (ahead_merged s (n + 1) (front ++ (h ∷ [])) b bs pos q lt
        (many_append s front (h ∷ []) ∙ omega (arith, many_yes s h [] eh))
        (λ x g. many_append x front (h ∷ []) ∙ omega (arith, none x g, many_no x h [] (λ z. omega arith)))
        (append_assoc front (h ∷ []) (settle m (n + 1 + 1) b bs) ∙ sym (ap (λ ls. front ++ ls) (settle_more m (n + 1) h b bs (q ∙ sym eh) (omega arith))) ∙ e) r))
        (cases_eq n m)
    ahead_merged s n front h (b ∷ bs) pos eh few has none e (next q l r) =
        stop (front ++ (h ∷ (b ∷ bs))) (sym (ap (λ ls. front ++ ls) (settle_next m (n + 1) h b bs (λ z. omega arith))) ∙ e)

    merged_on : (s : ℕ) (front : List Bucket) (h : Bucket) (bs : List Bucket) → 0 < s → h.size ≡ 2 * s → ((x : ℕ) → s < x → how_many x front ≡ 0) → front ++ settle m 1 h bs ≡ after → Shaped m s (m + 1) bs → Merged m (front ++ (h ∷ bs)) after
    merged_on s front h [] pos eh none e end = stop (front ++ (h ∷ [])) e
    merged_on s front h (b ∷ bs) pos eh none e (more q l r) = absurd (omega arith)
    merged_on s front h (b ∷ bs) pos eh none e (next q l r) =
        subst (λ z. Merged m z after) (append_assoc front (h ∷ []) (b ∷ bs))
        (ahead_merged (2 * s) 1 (front ++ (h ∷ [])) b bs (omega arith) q (omega arith)
        (many_append (2 * s) front (h ∷ []) ∙ omega (arith, none (2 * s) (omega arith), many_yes (2 * s) h [] eh))
        (λ x g. many_append x front (h ∷ []) ∙ omega (arith, none x (omega arith), many_no x h [] (λ z. omega arith)))
        (append_assoc front (h ∷ []) (settle m (1 + 1) b bs) ∙ sym (ap (λ ls. front ++ ls) (settle_more m 1 h b bs (q ∙ sym eh) (omega arith))) ∙ e) r)

pub arrival_by_the_rule : (m w t top : ℕ) (bs : List Bucket) → 0 < m → top ≤ t → falling top bs ≡ true → Shaped m 1 0 bs → Taken m w t bs (after_arrival m w t bs)
arrival_by_the_rule m w t top bs some after f r =
    let live = shaped_live t w top m 1 0 bs after f r in
    let all = settle_ahead m 1 0 (bucket 1 t) (live_buckets t w bs) some (omega arith) refl (omega arith) live in
    ahead_merged m some (after_arrival m w t bs) (no_size_crowded m (after_arrival m w t bs) some all) 1 0 [] (bucket 1 t) (live_buckets t w bs) (omega arith) refl (omega arith) refl (λ x g. refl) refl live

pub double_power : (s k : ℕ) → s ≡ 2 ^ k → 2 * s ≡ 2 ^ (k + 1)
double_power s k p = ap (λ z. 2 * z) p ∙ sym (ap (λ z. 2 ^ z) (add-one k) ∙ pow-suc 2 k ∙ mul_comm (2 ^ k) 2)

-- the next power of two is the double
next_power : (s x i j : ℕ) → s ≡ 2 ^ i → x ≡ 2 ^ j → s < x → 2 * s ≤ x
next_power s x i j ps px h =
    ⊎_elim
    (λ (l : i < j). let u : i + 1 ≤ j = omega arith in omega (arith, double_power s i ps, pow_mono u))
    (λ (l : j ≤ i). absurd (omega (arith, pow_mono l)))
    (cases_lt i j)

powers_of_two : (m s n k : ℕ) (bs : List Bucket) → s ≡ 2 ^ k → Shaped m s n bs → AllByRecursion (λ b. (j : ℕ) × (b.size ≡ 2 ^ j)) bs
powers_of_two m s n k [] p end = tt
powers_of_two m s n k (b ∷ bs) p (more e l r) = ((k, e ∙ p), powers_of_two m s (n + 1) k bs p r)
powers_of_two m s n k (b ∷ bs) p (next e l r) =
    let p2 = double_power s k p in
    ((k + 1, e ∙ p2), powers_of_two m (2 * s) 1 (k + 1) bs p2 r)

sizes_never_fall : (m s n : ℕ) (bs : List Bucket) → Shaped m s n bs → Climbing s bs
sizes_never_fall m s n [] end = tt
sizes_never_fall m s n (b ∷ bs) (more e l r) = (omega arith, subst (λ z. Climbing z bs) (sym e) (sizes_never_fall m s (n + 1) bs r))
sizes_never_fall m s n (b ∷ bs) (next e l r) = (omega arith, subst (λ z. Climbing z bs) (sym e) (sizes_never_fall m (2 * s) 1 bs r))

-- a size that is passed has m buckets
least_here : (m s n : ℕ) (bs : List Bucket) → 0 < s → s < largest bs → Shaped m s n bs → m ≤ n + how_many s bs
least_here m s n [] pos h end = absurd (omega arith)
least_here m s n (b ∷ bs) pos h (more e l r) =
    let k : s < largest bs = omega arith in
    omega (arith, many_yes s b bs e, least_here m s (n + 1) bs pos k r)
least_here m s n (b ∷ bs) pos h (next e l r) = omega arith

least_after : (m s n x : ℕ) (bs : List Bucket) → 0 < s → ((i : ℕ) × (s ≡ 2 ^ i)) → ((j : ℕ) × (x ≡ 2 ^ j)) → s < x → x < largest bs → Shaped m s n bs → m ≤ how_many x bs
least_after m s n x [] pos ps px sx h end = absurd (omega arith)
least_after m s n x (b ∷ bs) pos ps px sx h (more e l r) =
    let k : x < largest bs = omega arith in
    omega (arith, many_no x b bs (λ q. omega arith), least_after m s (n + 1) x bs pos ps px sx k r)
least_after m s n x (b ∷ bs) pos ps px sx h (next e l r) =
    let twice = double_power s ps.0 ps.1 in
    ⊎_elim
    (λ (q : x ≡ 2 * s).
    let k : 2 * s < largest bs = omega arith in
    omega (arith, many_yes x b bs (e ∙ sym q), ap (λ z. how_many z bs) q, least_here m (2 * s) 1 bs (omega arith) k r))
    (λ (q : x ≡ 2 * s → ⊥).
    let up : 2 * s ≤ x = next_power s x ps.0 px.0 ps.1 px.1 sx in
    let k : x < largest bs = omega arith in
    omega (arith, many_no x b bs (λ z. q (sym z ∙ e)), least_after m (2 * s) 1 x bs (omega arith) (ps.0 + 1, twice) px (omega arith) k r))
    (cases_eq x (2 * s))

pub sound_buckets : (m last : ℕ) (bs : List Bucket) → 0 < m → Shaped m 1 0 bs → total bs ≤ 4095 → falling last bs ≡ true → SoundBuckets m last bs
sound_buckets m last bs some r sum stamps = record {
  powers_of_two = powers_of_two m 1 0 0 bs refl r;
  sizes_never_fall = sizes_never_fall m 1 0 bs r;
  sum_bounded = sum;
  stamps_never_rise = stamps;
  no_size_crowded = no_size_crowded m bs some r;
  no_size_skipped = λ k h. ⊎_elim
      (λ (q : 2 ^ k ≡ 1). let l : 1 < largest bs = omega arith in omega (arith, ap (λ z. how_many z bs) q, least_here m 1 0 bs (omega arith) l r))
      (λ (q : 2 ^ k ≡ 1 → ⊥). let l : 1 < 2 ^ k = omega (arith, pow_pos k) in least_after m 1 0 (2 ^ k) bs (omega arith) (0, refl) (k, refl) l h r)
      (cases_eq (2 ^ k) 1);
}
