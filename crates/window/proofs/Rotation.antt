-- The newest z stamps of a list, kept by rank modulo z: one argument for every size with these facts of the remainder.
use Rattle.std.proofs.Common.{◌≡◌, ℕ, ◌+◌, ◌-◌, ◌%◌, ◌<◌, ◌≤◌, min, ◌≢◌, List, ◌++◌, length, get_or, take, drop, sym, ap, ◌∙◌, ⊎_elim, arith}
use Rattle.std.proofs.lemmas.Bool.{cases_lt}
use Rattle.std.proofs.lemmas.List.{same_lists, length-take, length-drop, length-append, get_or-take, get_or-drop, get_or_append_left, get_or-append_right, get_or_default, take_all}
use Rattle.window.specs.Stamps.{live_count}
use Rattle.window.proofs.Arrivals.{live_split, live_append}

-- what is asked of the remainder by z
pub record Size (z : ℕ) : Type 0 where
  pub below : (n : ℕ) → n % z < z
  pub small : (n : ℕ) → n < z → n % z ≡ n
  pub same : (n i : ℕ) → z ≤ n → i < z - n % z → (n - z + i) % z ≡ n % z + i
  pub wrap : (n i : ℕ) → z ≤ n → i < z → z - n % z ≤ i → (n - z + i) % z ≡ i - (z - n % z)
  pub apart : (n r : ℕ) → r < n → n < r + z → r % z ≢ n % z

-- each of the newest z of n ranks has its stamp at its place
abbrev pub Placed : ℕ → List ℕ → List ℕ → ℕ → Type 0
Placed z stamps xs n = (r : ℕ) → r < n → n ≤ r + z → get_or stamps (r % z) 0 ≡ get_or xs r 0

module _ (z : ℕ) (size : Size z) (stamps xs : List ℕ) (n : ℕ) (room : length stamps ≡ z) (many : length xs ≡ n) (each : Placed z stamps xs n) where
  few_same : n ≤ z → xs ≡ take n stamps
  few_same h =
      same_lists xs (take n stamps) (omega (arith, length-take n stamps))
      (λ k d l. let kn : k < n = omega arith in let m : k % z ≡ k = size.small k (omega arith) in
      get_or_default xs k d 0 l ∙ sym (rw m at (each k kn (omega arith))) ∙ get_or_default stamps k 0 d (omega arith) ∙ sym (get_or-take n stamps k d kn))

  many_same : z ≤ n → drop (n - z) xs ≡ drop (n % z) stamps ++ take (n % z) stamps
  many_same h =
      let q : n % z < z = size.below n in
      let len_drop : length (drop (n % z) stamps) ≡ z - n % z = omega (arith, length-drop (n % z) stamps) in
      let len_take : length (take (n % z) stamps) ≡ n % z = omega (arith, length-take (n % z) stamps) in
      let len_xs : length (drop (n - z) xs) ≡ z = omega (arith, length-drop (n - z) xs) in
      same_lists (drop (n - z) xs) (drop (n % z) stamps ++ take (n % z) stamps) (omega (arith, length-append (drop (n % z) stamps) (take (n % z) stamps)))
      (λ k d l.
      let i : k < z = omega arith in
      let left = get_or-drop (n - z) xs k d ∙ get_or_default xs (n - z + k) d 0 (omega arith) ∙ sym (each (n - z + k) (omega arith) (omega arith)) ∙ get_or_default stamps ((n - z + k) % z) 0 d (omega (arith, size.below (n - z + k))) in
      let front : k < z - n % z → get_or (drop (n - z) xs) k d ≡ get_or (drop (n % z) stamps ++ take (n % z) stamps) k d =
      λ lt. left ∙ ap (λ m. get_or stamps m d) (size.same n k h lt) ∙ sym (get_or-drop (n % z) stamps k d) ∙ sym (get_or_append_left (drop (n % z) stamps) (take (n % z) stamps) d k (omega arith)) in
      let back : z - n % z ≤ k → get_or (drop (n - z) xs) k d ≡ get_or (drop (n % z) stamps ++ take (n % z) stamps) k d =
      λ ge. left ∙ ap (λ m. get_or stamps m d) (size.wrap n k h i ge) ∙ sym (get_or-take (n % z) stamps (k - (z - n % z)) d (omega arith)) ∙ sym (get_or-append_right (drop (n % z) stamps) (take (n % z) stamps) (z - n % z) k d len_drop ge) in
      ⊎_elim front back (cases_lt k (z - n % z)))

  -- the kept stamps are the newest ones, in another order: as many are live
  pub newest_live : (t v : ℕ) → live_count t v (drop (n - z) xs) ≡ live_count t v (take (min n z) stamps)
  newest_live t v =
      let small : n < z → live_count t v (drop (n - z) xs) ≡ live_count t v (take (min n z) stamps) =
      λ h. let a : n - z ≡ 0 = omega arith in let b : min n z ≡ n = omega arith in rw (a, b) (ap (live_count t v) (few_same (omega arith))) in
      let large : z ≤ n → live_count t v (drop (n - z) xs) ≡ live_count t v (take (min n z) stamps) =
      λ h. let b : min n z ≡ z = omega arith in
      let whole : take z stamps ≡ stamps = take_all z stamps (omega arith) in
      rw b (ap (live_count t v) (many_same h) ∙ live_append t v (drop (n % z) stamps) (take (n % z) stamps) ∙ (let s = live_split t v (n % z) stamps in omega arith) ∙ sym (ap (live_count t v) whole)) in
      ⊎_elim small large (cases_lt n z)
