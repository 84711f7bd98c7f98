-- Sixteen bytes as one number: equal only where every byte is the same.
use Rattle.std.proofs.Common.{◌≡◌, ℕ, suc, zero, ◌+◌, ◌*◌, ◌/◌, ◌^◌, ◌<◌, ◌≤◌, List, length, get_or, sym, ap, ◌∙◌, subst, ⊎_elim, arith}
use Rattle.std.specs.Int.{byte_worth, sum_through, from_le_bytes, w128}
use Rattle.std.proofs.Math.Nat.{pow-suc}
use Rattle.std.proofs.lemmas.Nat.{div-mul-add, mul-add-lt}
use Rattle.std.proofs.lemmas.Bool.{cases_lt}
use Rattle.std.proofs.lemmas.Grind.{same_number_lists}

-- the bytes f 0 to f k as one number, the least first
abbrev number : (ℕ → ℕ) → ℕ → ℕ
number f k = sum_through (λ i. byte_worth i (f i)) k

-- it stays below what the next byte is worth
below : (f : ℕ → ℕ) → ((i : ℕ) → f i < 256) → (k : ℕ) → number f k < 256 ^ suc k
below f small zero = omega (arith, small 0)
below f small (suc k) =
    let room : f (suc k) * 256 ^ suc k + number f k < 256 ^ suc k * 256 = mul-add-lt (f (suc k)) (256 ^ suc k) (number f k) 256 (small (suc k)) (below f small k) in
    omega (arith, room, pow-suc 256 (suc k))

-- bytes with the same number are the same, the topmost one first
same_through : (f g : ℕ → ℕ) → ((i : ℕ) → f i < 256) → ((i : ℕ) → g i < 256) → (k : ℕ) → number f k ≡ number g k → (i : ℕ) → i ≤ k → f i ≡ g i
same_through f g f_small g_small zero same i l = subst (λ j. f j ≡ g j) (omega (arith, l)) same
same_through f g f_small g_small (suc k) same i l =
    let p = 256 ^ suc k in
    let joined : f (suc k) * p + number f k ≡ g (suc k) * p + number g k = omega (arith, same) in
    let top : f (suc k) ≡ g (suc k) = sym (div-mul-add (f (suc k)) p (number f k) (below f f_small k)) ∙ ap (λ n. n / p) joined ∙ div-mul-add (g (suc k)) p (number g k) (below g g_small k) in
    let worth : f (suc k) * p ≡ g (suc k) * p = ap (λ b. b * p) top in
    let rest : number f k ≡ number g k = omega (arith, joined, worth) in
    ⊎_elim
    (λ (h : i < suc k). same_through f g f_small g_small k rest i (omega (arith, h)))
    (λ (h : suc k ≤ i). subst (λ j. f j ≡ g j) (omega (arith, h, l)) top)
    (cases_lt i (suc k))

-- sixteen bytes with the same number are the same bytes
pub same_number : (xs ys : List ℕ) → length xs ≡ 16 → length ys ≡ 16 → ((i : ℕ) → get_or xs i 0 < 256) → ((i : ℕ) → get_or ys i 0 < 256) → from_le_bytes w128 xs ≡ from_le_bytes w128 ys → xs ≡ ys
same_number xs ys long_x long_y small_x small_y same =
    same_number_lists xs ys (omega (arith, long_x, long_y)) (λ k l. same_through (λ i. get_or xs i 0) (λ i. get_or ys i 0) small_x small_y 15 same k (omega (arith, l, long_x)))
