-- Serials and their keys.
use Rattle.std.proofs.Common.{◌≡◌, ℕ, zero, suc, ◌+◌, ◌<◌, ◌≤◌, Bool, true, false, cond, ◌&&◌, eqb, leb, List, [], ◌∷◌, ◌++◌, map, length, get_or, count_by, filter, sym, refl, ap, ◌∙◌, ⊎_elim, one-add, arith}
use Rattle.std.specs.List.{range_with_len, ContainsAt as Has, AllByRecursion}
use Rattle.std.proofs.lemmas.Bool.{cases_Bool, and_parts, and_from, eqb-true, eq-eqb, leb-true, le-leb, false≢true, cond_both, cond-true, cond-false}
use Rattle.std.proofs.lemmas.List.Sums.{sum_by-cons}
use Rattle.std.proofs.lemmas.List.FromFn.{length-range_with_len, get_or-range_with_len}
use Rattle.window.specs.Stamps.{is_live}
use Rattle.sketch.specs.Layout.{node_of}
use Rattle.sketch.specs.Plays.{KeyedPlay, count_where, count_in, count_of_node}
use Rattle.sketch.proofs.Weaker.{countBy_weaker}
use Rattle.std.proofs.ByRecursion.{all_kept_by, All-weaker}
use Rattle.daybook.specs.Promises.{Rising}
use Rattle.daybook.specs.Book.{Book, Play, Serial, same_bytes, key_in, key_of, Enrolled, keyed, count_of_cabinet}

pub same_bytes_true : (xs ys : List ℕ) → same_bytes xs ys ≡ true → xs ≡ ys
same_bytes_true [] [] h = refl
same_bytes_true [] (y ∷ ys) h = absurd (false≢true h)
same_bytes_true (x ∷ xs) [] h = absurd (false≢true h)
same_bytes_true (x ∷ xs) (y ∷ ys) h =
    let parts = and_parts (eqb x y) (same_bytes xs ys) h in
    let e = eqb-true x y parts.0 in
    let es = same_bytes_true xs ys parts.1 in
    cc

pub same_bytes_same : (xs : List ℕ) → same_bytes xs xs ≡ true
same_bytes_same [] = refl
same_bytes_same (x ∷ xs) = and_from (eqb x x) (same_bytes xs xs) (eq-eqb x x refl) (same_bytes_same xs)

-- at its key stands the serial
pub at_key : (es : List Serial) (s : Serial) → key_in es s < length es → get_or es (key_in es s) [] ≡ s
at_key [] s h = absurd (omega arith)
at_key (e ∷ es) s h =
    ⊎_elim
    (λ (p : same_bytes e s ≡ true). ap (λ n. get_or (e ∷ es) n []) (cond-true (same_bytes e s) 0 (1 + key_in es s) p) ∙ same_bytes_true e s p)
    (λ (p : same_bytes e s ≡ false).
    let k : key_in (e ∷ es) s ≡ suc (key_in es s) = cond-false (same_bytes e s) 0 (1 + key_in es s) p ∙ one-add (key_in es s) in
    ap (λ n. get_or (e ∷ es) n []) k ∙ at_key es s (omega arith))
    (cases_Bool (same_bytes e s))

-- who has the key of an enrolled serial is that serial
pub same_key : (es : List Serial) (s u : Serial) → key_in es s < length es → key_in es u ≡ key_in es s → u ≡ s
same_key es s u h e = sym (at_key es u (omega arith)) ∙ ap (λ n. get_or es n []) e ∙ at_key es s h

-- keys stay when one more is enrolled
pub key_stays : (es : List Serial) (s u : Serial) → key_in es u < length es → key_in (es ++ s ∷ []) u ≡ key_in es u
key_stays [] s u h = absurd (omega arith)
key_stays (e ∷ es) s u h =
    ⊎_elim
    (λ (p : same_bytes e u ≡ true). cond-true (same_bytes e u) 0 (1 + key_in (es ++ s ∷ []) u) p ∙ sym (cond-true (same_bytes e u) 0 (1 + key_in es u) p))
    (λ (p : same_bytes e u ≡ false).
    let k : key_in (e ∷ es) u ≡ 1 + key_in es u = cond-false (same_bytes e u) 0 (1 + key_in es u) p in
    let l : key_in (e ∷ (es ++ s ∷ [])) u ≡ 1 + key_in (es ++ s ∷ []) u = cond-false (same_bytes e u) 0 (1 + key_in (es ++ s ∷ []) u) p in
    let r = key_stays es s u (omega arith) in
    omega arith)
    (cases_Bool (same_bytes e u))

-- a count over the keyed plays is one over the plays
keyed_count : (book : Book) (keys : Book) (plays : List Play) (passes : ℕ → Bool) (t v : ℕ) → count_where (map (λ p. record { key = key_of keys p.serial; stamp = p.stamp }) plays) passes t v ≡ count_by (λ (p : Play). is_live t v p.stamp && passes (key_of keys p.serial)) plays
keyed_count book keys [] passes t v = refl
keyed_count book keys (p ∷ plays) passes t v =
    let rest = keyed_count book keys plays passes t v in
    let one : KeyedPlay = record { key = key_of keys p.serial; stamp = p.stamp } in
    let left = sum_by-cons (λ (q : KeyedPlay). cond (is_live t v q.stamp && passes q.key) 1 0) one (map (λ p. record { key = key_of keys p.serial; stamp = p.stamp }) plays) in
    let right = sum_by-cons (λ (p : Play). cond (is_live t v p.stamp && passes (key_of keys p.serial)) 1 0) p plays in
    omega arith

pub counted_where : (book : Book) (passes : ℕ → Bool) (t v : ℕ) → count_where (keyed book) passes t v ≡ count_by (λ (p : Play). is_live t v p.stamp && passes (key_of book p.serial)) book.plays
counted_where book passes t v = keyed_count book book book.plays passes t v

-- a cabinet's plays are those with its key
module _ (book : Book) (s : Serial) (t v : ℕ) where
  abbrev own : ℕ
  own = key_of book s

  abbrev by_serial : Play → Bool
  by_serial p = is_live t v p.stamp && same_bytes s p.serial

  all_plays : {X : Type 0} (xs : List X) → AllByRecursion (λ x. Unit {0}) xs
  all_plays [] = tt
  all_plays (x ∷ xs) = (tt, all_plays xs)

  -- a test that the cabinet's key passes counts all its plays
  passing : (passes : ℕ → Bool) → passes own ≡ true → count_of_cabinet book s t v ≤ count_where (keyed book) passes t v
  passing passes h =
      let weaker = countBy_weaker (λ p. Unit {0}) by_serial (λ p. is_live t v p.stamp && passes (key_of book p.serial)) book.plays (all_plays book.plays)
      (λ p u e. let parts = and_parts (is_live t v p.stamp) (same_bytes s p.serial) e in
      and_from (is_live t v p.stamp) (passes (key_of book p.serial)) parts.0 (ap (λ u. passes (key_of book u)) (sym (same_bytes_true s p.serial parts.1)) ∙ h)) in
      omega (arith, weaker, counted_where book passes t v)

  pub cabinet_in_range : count_of_cabinet book s t v ≤ count_in (keyed book) own own t v
  cabinet_in_range = passing (λ x. leb own x && leb x own) (and_from (leb own own) (leb own own) (le-leb own own (omega arith)) (le-leb own own (omega arith)))

  pub cabinet_in_node : (k : ℕ) → count_of_cabinet book s t v ≤ count_of_node (keyed book) k (node_of k own) t v
  cabinet_in_node k = passing (λ x. eqb (node_of k x) (node_of k own)) (eq-eqb (node_of k own) (node_of k own) refl)

  pub range_in_cabinet : Enrolled book s → count_in (keyed book) own own t v ≤ count_of_cabinet book s t v
  range_in_cabinet known =
      let by_key : Play → Bool = λ p. is_live t v p.stamp && (leb own (key_of book p.serial) && leb (key_of book p.serial) own) in
      let weaker = countBy_weaker (λ p. Unit {0}) by_key by_serial book.plays (all_plays book.plays)
      (λ p u h. let x : ℕ = key_of book p.serial in
      let parts = and_parts (is_live t v p.stamp) (leb own x && leb x own) h in
      let both = and_parts (leb own x) (leb x own) parts.1 in
      let e : x ≡ own = omega (arith, leb-true own x both.0, leb-true x own both.1) in
      let same = same_key book.enrolled s p.serial known e in
      and_from (is_live t v p.stamp) (same_bytes s p.serial) parts.0 (rw same (same_bytes_same s))) in
      omega (arith, weaker, counted_where book (λ x. leb own x && leb x own) t v)

-- what a list has and a test passes stands in what the test keeps
has_more : {X : Type 0} (y : X) (xs : List X) (x : X) → Has xs x → Has (y ∷ xs) x
has_more y xs x h = (suc h.0, omega (arith, h.1), h.2)

has_kept_at : {X : Type 0} (p : X → Bool) (xs : List X) (x : X) (k : ℕ) → k < length xs → ((d : X) → get_or xs k d ≡ x) → p x ≡ true → Has (filter p xs) x
has_kept_at p [] x k l h e = absurd (omega arith)
has_kept_at {X} p (y ∷ xs) x zero l h e =
    cond_both (p y) (y ∷ filter p xs) (filter p xs) (λ l. Has l x) (λ b. (0, omega arith, h)) (λ b. absurd (false≢true (sym b ∙ ap p (h x) ∙ e)))
has_kept_at {X} p (y ∷ xs) x (suc k) l h e =
    let rest : Has (filter p xs) x = has_kept_at p xs x k (omega arith) h e in
    cond_both (p y) (y ∷ filter p xs) (filter p xs) (λ l. Has l x) (λ b. has_more y (filter p xs) x rest) (λ b. rest)

pub has_kept : (p : ℕ → Bool) (n x : ℕ) → x < n → p x ≡ true → Has (filter p (range_with_len 0 n)) x
has_kept p n x l e = has_kept_at p (range_with_len 0 n) x x (omega (arith, length-range_with_len 0 n)) (λ d. get_or-range_with_len 0 n x d l ∙ (omega arith)) e

-- what a test keeps of the numbers from a on rises, and stays below the end
pub kept_rising : (p : ℕ → Bool) (a n : ℕ) → Rising a (filter p (range_with_len a n))
kept_rising p a zero = tt
kept_rising p a (suc n) =
    let rest = kept_rising p (a + 1) n in
    cond_both (p a) (a ∷ filter p (range_with_len (a + 1) n)) (filter p (range_with_len (a + 1) n)) (Rising a) (λ _. (omega arith, rest)) (λ _. rising_lower a (a + 1) (filter p (range_with_len (a + 1) n)) (omega arith) rest)
  where
    rising_lower : (lo hi : ℕ) (xs : List ℕ) → lo ≤ hi → Rising hi xs → Rising lo xs
    rising_lower lo hi [] h r = tt
    rising_lower lo hi (x ∷ xs) h r = (omega (arith, r.0), r.1)

pub kept_below : (p : ℕ → Bool) (a n : ℕ) → AllByRecursion (λ x. x < a + n) (filter p (range_with_len a n))
kept_below p a n = all_kept_by p (λ x. x < a + n) (range_with_len a n) (counting_below a n)
  where
    counting_below : (a n : ℕ) → AllByRecursion (λ x. x < a + n) (range_with_len a n)
    counting_below a zero = tt
    counting_below a (suc n) = (omega arith, All-weaker (λ x. x < a + 1 + n) (λ x. x < a + suc n) (λ x h. omega arith) (range_with_len (a + 1) n) (counting_below (a + 1) n))
