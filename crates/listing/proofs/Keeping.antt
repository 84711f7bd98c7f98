-- The keys below a number that pass a test, as the number rises.
use Rattle.std.proofs.Common.{◌≡◌, ℕ, zero, suc, ◌+◌, ◌-◌, ◌<◌, ◌≤◌, Bool, true, false, cond, [], ◌∷◌, ◌++◌, filter, sym, ap, ◌∙◌, ⊎_elim, arith}
use Rattle.std.specs.List.{range_with_len}
use Rattle.std.proofs.lemmas.List.{map-id, append-nil}
use Rattle.std.proofs.lemmas.List.FromFn.{filter_of_map_range_with_len_more}
use Rattle.std.proofs.lemmas.Bool.{cond-true, cond-false, cases_Bool, both_ways}
use Rattle.window.specs.Below.{all_below}
use Rattle.window.proofs.Bounded.{all_at}

module _ (p : ℕ → Bool) where
  kept_more : (n : ℕ) → filter p (range_with_len 0 (n + 1)) ≡ filter p (range_with_len 0 n) ++ cond (p n) (n ∷ []) []
  kept_more n =
      ap (filter p) (sym (map-id (range_with_len 0 (n + 1)))) ∙ filter_of_map_range_with_len_more p (λ x. x) 0 n n (omega arith) ∙ ap (λ xs. filter p xs ++ cond (p n) (n ∷ []) []) (map-id (range_with_len 0 n))

  -- one key more, which passes
  pub kept_yes : (n : ℕ) → p n ≡ true → filter p (range_with_len 0 (n + 1)) ≡ filter p (range_with_len 0 n) ++ n ∷ []
  kept_yes n e = kept_more n ∙ ap (λ xs. filter p (range_with_len 0 n) ++ xs) (cond-true (p n) (n ∷ []) [] e)

  kept_no : (n : ℕ) → p n ≡ false → filter p (range_with_len 0 (n + 1)) ≡ filter p (range_with_len 0 n)
  kept_no n e = kept_more n ∙ ap (λ xs. filter p (range_with_len 0 n) ++ xs) (cond-false (p n) (n ∷ []) [] e) ∙ append-nil (filter p (range_with_len 0 n))

  kept_over : (a n : ℕ) → ((x : ℕ) → a ≤ x → x < a + n → p x ≡ false) → filter p (range_with_len 0 (a + n)) ≡ filter p (range_with_len 0 a)
  kept_over a zero none = ap (λ n. filter p (range_with_len 0 n)) (let e : a + 0 ≡ a = omega arith in e)
  kept_over a (suc n) none =
      ap (λ k. filter p (range_with_len 0 k)) (let e : a + suc n ≡ a + n + 1 = omega arith in e) ∙ kept_no (a + n) (none (a + n) (omega arith) (omega arith)) ∙ kept_over a n (λ x from to. none x from (omega arith))

  -- the keys from a on and below b do not pass
  pub kept_skipped : (a b : ℕ) → a ≤ b → ((x : ℕ) → a ≤ x → x < b → p x ≡ false) → filter p (range_with_len 0 b) ≡ filter p (range_with_len 0 a)
  kept_skipped a b l none =
      let e : b ≡ a + (b - a) = omega arith in
      ap (λ n. filter p (range_with_len 0 n)) e ∙ kept_over a (b - a) (λ x from to. none x from (omega arith))

-- one that fails is enough
pub all_fails : (p : ℕ → Bool) (n k : ℕ) → k < n → p k ≡ false → all_below p n ≡ false
all_fails p n k l e =
    ⊎_elim
    (λ (all : all_below p n ≡ true). absurd (both_ways (p k) e (all_at p n k l all)))
    (λ (no : all_below p n ≡ false). no)
    (cases_Bool (all_below p n))
