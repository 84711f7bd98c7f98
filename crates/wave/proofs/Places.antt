-- Ranks that are kept together have places apart.
use Rattle.std.proofs.Common.{◌≡◌, ℕ, suc, ◌+◌, ◌*◌, ◌/◌, ◌%◌, ◌^◌, ◌<◌, ◌≤◌, ◌≢◌, sym, ap, ◌∙◌, ⊎_elim, mul_right_comm, arith}
use Rattle.std.proofs.Math.Pow.{shr_mono}
use Rattle.std.proofs.lemmas.Bool.{cases_lt, cond-true, cond-false, lt-ltb, le-ltb}
use Rattle.std.proofs.lemmas.Nat.{shr-shr}
use Rattle.wave.specs.Ranks.{top}
use Rattle.wave.specs.Waves.{place}
use Rattle.wave.specs.Levels.{Kept, double, top_le, divides_top, whole, near_from}

place_low : (r : ℕ) → top r < 11 → place r ≡ 8 * top r + r / 2 ^ (top r + 1) % 8
place_low r h = cond-true _ _ _ (lt-ltb (top r) 11 h)

place_high : (r : ℕ) → 11 ≤ top r → place r ≡ 88 + r / 2 ^ 11 % 16
place_high r h = cond-false _ _ _ (le-ltb (top r) 11 h)

pub place_below : (r : ℕ) → place r < 104
place_below r =
    ⊎_elim (λ l. omega (arith, place_low r l)) (λ l. omega (arith, place_high r l)) (cases_lt (top r) 11)

-- a rank is an odd multiple at its highest level, but for level 11
odd : (r : ℕ) → top r < 11 → r / 2 ^ top r % 2 ≡ 1
odd r h =
    let i = top r in
    let a = r / 2 ^ i in
    let z = a / 2 in
    ⊎_elim
    (λ (even : a % 2 < 1).
    let e : a ≡ z * 2 = omega arith in
    let at : r ≡ z * 2 ^ suc i = sym (whole r i (omega arith)) ∙ ap (λ k. k * 2 ^ i) e ∙ mul_right_comm z 2 (2 ^ i) ∙ sym (double z i) in
    let up = divides_top z (suc i) (omega arith) in
    absurd (omega (arith, up, ap top at)))
    (λ l. omega arith)
    (cases_lt (a % 2) 1)

-- the quotient of a level tells its ranks apart
same_rank : (r n i : ℕ) → i ≤ top r → i ≤ top n → r / 2 ^ i ≡ n / 2 ^ i → r ≡ n
same_rank r n i a b e = sym (whole r i a) ∙ ap (λ x. x * 2 ^ i) e ∙ whole n i b

-- eight places hold seven odd numbers in a row
mod_apart : (x y : ℕ) → x ≤ y → y ≤ x + 6 → x % 8 ≡ y % 8 → x ≡ y
mod_apart x y le near e = omega arith

odd_apart : (a b : ℕ) → a ≤ b → b ≤ a + 12 → a % 2 ≡ 1 → b % 2 ≡ 1 → a / 2 % 8 ≡ b / 2 % 8 → a ≡ b
odd_apart a b le near oa ob e = let same = mod_apart (a / 2) (b / 2) (omega arith) (omega arith) e in omega arith

apart_low : (n m r : ℕ) → m ≤ 6 → r < n → Kept n m r → top r < 11 → top n ≡ top r → r / 2 ^ (top r + 1) % 8 ≡ n / 2 ^ (top n + 1) % 8 → ⊥
apart_low n m r six less k low same e =
    let i = top r in
    let near = near_from n m i r (omega arith) k.near in
    let le : r ≤ n = omega arith in
    let mono = shr_mono i le in
    let at : n / 2 ^ top n ≡ n / 2 ^ i = ap (λ x. n / 2 ^ x) same in
    let at' : n / 2 ^ (top n + 1) ≡ n / 2 ^ (i + 1) = ap (λ x. n / 2 ^ (x + 1)) same in
    let q = odd_apart (r / 2 ^ i) (n / 2 ^ i) mono (omega arith) (odd r low) (omega (arith, odd n (omega arith)))
    (ap (λ x. x % 8) (shr-shr r i 1) ∙ e ∙ ap (λ x. x % 8) (at' ∙ sym (shr-shr n i 1))) in
    omega (arith, same_rank r n i (omega arith) (omega arith) q)

apart_high : (n m r : ℕ) → m ≤ 6 → r < n → Kept n m r → top r ≡ 11 → top n ≡ 11 → r / 2 ^ 11 % 16 ≡ n / 2 ^ 11 % 16 → ⊥
apart_high n m r six less k high same e =
    let reach : n < r + (2 * m + 1) * 2 ^ 11 = omega (arith, k.near, ap (λ i. (2 * m + 1) * 2 ^ i) high) in
    let near = near_from n m 11 r (omega arith) reach in
    let le : r ≤ n = omega arith in
    let mono = shr_mono 11 le in
    let q : r / 2 ^ 11 ≡ n / 2 ^ 11 = omega arith in
    omega (arith, same_rank r n 11 (omega arith) (omega arith) q)

-- a rank kept beside the newest one has another place
pub place_apart : (n m r : ℕ) → m ≤ 6 → r < n → Kept n m r → place r ≢ place n
place_apart n m r six less k e =
    let tr = top_le r in
    let tn = top_le n in
    ⊎_elim
    (λ (lr : top r < 11).
    let pr = place_low r lr in
    ⊎_elim
    (λ (ln : top n < 11). let pn = place_low n ln in apart_low n m r six less k lr (omega arith) (omega arith))
    (λ (hn : 11 ≤ top n). let pn = place_high n hn in omega arith)
    (cases_lt (top n) 11))
    (λ (hr : 11 ≤ top r).
    let pr = place_high r hr in
    ⊎_elim
    (λ (ln : top n < 11). let pn = place_low n ln in omega arith)
    (λ (hn : 11 ≤ top n). let pn = place_high n hn in apart_high n m r six less k (omega arith) (omega arith) (omega arith))
    (cases_lt (top n) 11))
    (cases_lt (top r) 11)

-- two ranks that are kept together have places apart
pub places_apart : (n m a b : ℕ) → m ≤ 6 → Kept n m a → Kept n m b → a ≢ b → place a ≢ place b
places_apart n m a b six ka kb ne e =
    ⊎_elim
    (λ (l : a < b). place_apart b m a six l (record { belongs = omega arith; taken = omega arith; near = omega (arith, ka.near, kb.taken) }) e)
    (λ (l : b ≤ a).
    let less : b < a = omega arith in
    place_apart a m b six less (record { belongs = omega arith; taken = omega arith; near = omega (arith, kb.near, ka.taken) }) (sym e))
    (cases_lt a b)
