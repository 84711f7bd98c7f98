-- A newly opened board.
use Rattle.std.proofs.Common.{◌≡◌, ℕ, zero, suc, ◌+◌, ◌-◌, ◌<◌, ◌≤◌, Bool, true, false, ltb, List, [], ◌∷◌, ◌++◌, length, get_or, replicate, refl, ap, ◌∙◌, ⊎_elim, arith}
use borrow.Rule.Slice.PartMut.{post_of}
use Rattle.std.specs.List.{prefix_len}
use Rattle.std.proofs.lemmas.List.{drop-replicate, get_or_past, get_or_append_left, get_or-append_right, get_or-replicate, length-replicate}
use Rattle.std.proofs.lemmas.Bool.{cases_lt, ltb-true, cond-false, cond_both, cases_Bool}
use Rattle.board.specs.Opening.{first_wide}

-- words copied to the front of zeros
pub own_copy : (copied words : List ℕ) → copied ≡ words → copied ++ post_of 0 (length words - 0) (replicate 440 0) ≡ words ++ replicate (440 - length words) 0
own_copy copied words e =
    let left : 440 - (length words - 0) ≡ 440 - length words = omega arith in
    ap (λ l. l ++ post_of 0 (length words - 0) (replicate 440 0)) e ∙ ap (λ l. words ++ l) (drop-replicate (length words - 0) 440 0 ∙ ap (λ (n : ℕ). replicate n 0) left)

-- where every word passes, each of them does
leading_all : (p : ℕ → Bool) (xs : List ℕ) → length xs ≤ prefix_len p xs → (k : ℕ) → k < length xs → p (get_or xs k 0) ≡ true
leading_all p [] h k l = absurd (omega arith)
leading_all p (x ∷ xs) h zero l =
    ⊎_elim
    (λ (e : p x ≡ true). e)
    (λ (e : p x ≡ false). let none = cond-false {A = ℕ} (p x) (1 + prefix_len p xs) 0 e in absurd (omega arith))
    (cases_Bool (p x))
leading_all p (x ∷ xs) h (suc k) l =
    let most : prefix_len p (x ∷ xs) ≤ 1 + prefix_len p xs = cond_both {A = ℕ} (p x) (1 + prefix_len p xs) 0 (λ n. n ≤ 1 + prefix_len p xs) (λ _. omega arith) (λ _. omega arith) in
    leading_all p xs (omega arith) k (omega arith)

pub narrow_words : (width : ℕ) (words : List ℕ) → 0 < width → length words ≤ first_wide width words → (p : ℕ) → get_or words p 0 < width
narrow_words width words pos h p =
    ⊎_elim
    (λ (l : p < length words). ltb-true (get_or words p 0) width (leading_all (λ x. ltb x width) words h p l))
    (λ (l : length words ≤ p). omega (arith, get_or_past words p 0 l))
    (cases_lt p (length words))

-- words that are columns, with zeros after them
pub own_narrow : (width : ℕ) (words : List ℕ) (n : ℕ) → 0 < width → ((p : ℕ) → get_or words p 0 < width) → (p : ℕ) → get_or (words ++ replicate n 0) p 0 < width
own_narrow width words n pos h p =
    ⊎_elim
    (λ (l : p < length words). let e = get_or_append_left words (replicate n 0) 0 p l in omega (arith, h p))
    (λ (l : length words ≤ p).
    let e = get_or-append_right words (replicate n 0) (length words) p 0 refl l in
    ⊎_elim
    (λ (k : p - length words < n). let z : get_or (replicate {A = ℕ} n 0) (p - length words) 0 ≡ 0 = get_or-replicate n (p - length words) 0 0 k in omega arith)
    (λ (k : n ≤ p - length words). let z : get_or (replicate {A = ℕ} n 0) (p - length words) 0 ≡ 0 = get_or_past (replicate n 0) (p - length words) 0 (omega (arith, length-replicate {A = ℕ} n 0)) in omega arith)
    (cases_lt (p - length words) n))
    (cases_lt p (length words))

pub narrow_after : (width : ℕ) (words : List ℕ) (n : ℕ) (own : List ℕ) → 0 < width → own ≡ words ++ replicate n 0 → ((p : ℕ) → get_or words p 0 < width) → (p : ℕ) → get_or own p 0 < width
narrow_after width words n own pos e h p = let at = ap (λ l. get_or l p 0) e in omega (arith, own_narrow width words n pos h p, at)
