-- Which ranks a level keeps, by how far back it reaches.
use Rattle.std.specs.Prelude.{◌≡◌, ℕ, zero, suc, ◌+◌, ◌-◌, ◌*◌, ◌/◌, ◌%◌, ◌^◌, ◌<◌, ◌≤◌, Decides, refl}
use Rattle.std.proofs.Common.{sym, ap, subst, ◌∙◌, ⊎_elim, arith, mul_assoc, add-mul, pow-suc, mul-le-mul_left, mul-le-mul_right}
use Rattle.std.specs.Int.Count.{count_trailing_zeros, under}
use Rattle.std.proofs.Math.Pow.{shr_mono}
use Rattle.std.proofs.lemmas.Bool.{leb-true, le-leb, and_parts, and_from, cases_lt}
use Rattle.std.proofs.lemmas.Bool.Decides.{Decides-like}
use Rattle.std.proofs.lemmas.Nat.{pow_pos, pow_below, shr_split, div_below, mod_below, shl-shr}
use Rattle.wave.specs.Ranks.{top, keeps, kept, Newest}
use Rattle.window.proofs.Bounded.{any_decides}

under_case : (d t j : ℕ) → suc j ≤ under d t → (d ≡ 0) × (j ≤ t)
under_case zero t j h = (refl, omega arith)
under_case (suc d) t j h = absurd (omega arith)

under_back : (d t j : ℕ) → d ≡ 0 → j ≤ t → suc j ≤ under d t
under_back zero t j e h = omega arith
under_back (suc d) t j e h = absurd (omega arith)

pub double : (a j : ℕ) → a * 2 ^ suc j ≡ a * 2 ^ j * 2
double a j = ap (λ h. a * h) (pow-suc 2 j) ∙ sym (mul_assoc a (2 ^ j) 2)

zeros_divide : (k r j : ℕ) → j ≤ count_trailing_zeros k r → (a : ℕ) × (r ≡ a * 2 ^ j)
unfolding count_trailing_zeros
zeros_divide k r zero h = (r, omega arith)
zeros_divide zero r (suc j) h = absurd (omega arith)
zeros_divide (suc k) r (suc j) h =
    let u = under_case (r % 2) (count_trailing_zeros k (r / 2)) j h in
    let i = zeros_divide k (r / 2) j u.1 in
    (i.0, omega (arith, u.0, i.1, double i.0 j))

divide_zeros : (k a j : ℕ) → j ≤ k → j ≤ count_trailing_zeros k (a * 2 ^ j)
unfolding count_trailing_zeros
divide_zeros k a zero h = omega arith
divide_zeros zero a (suc j) h = absurd (omega arith)
divide_zeros (suc k) a (suc j) h =
    let d = double a j in
    let half : (a * 2 ^ suc j) / 2 ≡ a * 2 ^ j = omega arith in
    let even : (a * 2 ^ suc j) % 2 ≡ 0 = omega arith in
    under_back _ _ j even (rw half (divide_zeros k a j (omega arith)))

pub top_le : (r : ℕ) → top r ≤ 11
top_le r = omega arith

-- a rank belongs to the levels whose gap divides it
pub top_divides : (r j : ℕ) → j ≤ top r → (a : ℕ) × (r ≡ a * 2 ^ j)
top_divides r j h = zeros_divide 32 r j (omega arith)

pub divides_top : (a j : ℕ) → j ≤ 11 → j ≤ top (a * 2 ^ j)
divides_top a j h = omega (arith, divide_zeros 32 a j (omega arith))

pub whole : (r j : ℕ) → j ≤ top r → r / 2 ^ j * 2 ^ j ≡ r
whole r j h =
    let d = top_divides r j h in
    ap (λ x. x / 2 ^ j * 2 ^ j) d.1 ∙ ap (λ x. x * 2 ^ j) (shl-shr d.0 j) ∙ sym d.1

pub pow_mono : (i j : ℕ) → i ≤ j → 2 ^ i ≤ 2 ^ j
pow_mono i j h =
    ⊎_elim (λ (l : i < j). omega (arith, pow_below i j l)) (λ (l : j ≤ i). let e : i ≡ j = omega arith in omega (arith, ap (λ k. 2 ^ k) e)) (cases_lt i j)

-- how far back level j reaches
abbrev pub reach : ℕ → ℕ → ℕ
reach m j = (2 * m + 1) * 2 ^ j

pub reach_pos : (m j : ℕ) → 2 ^ j ≤ reach m j
reach_pos m j = let a = add-mul (2 * m) 1 (2 ^ j) in omega arith

pub reach_mono : (m i j : ℕ) → i ≤ j → reach m i ≤ reach m j
reach_mono m i j h = mul-le-mul_left (2 * m + 1) (pow_mono i j h)

-- level j keeps rank r
pub record LevelKeeps (n m j r : ℕ) : Type 0 where
  pub belongs : j ≤ top r
  pub taken : r ≤ n
  pub near : n < r + reach m j

pub near_to : (n m j r : ℕ) → j ≤ top r → n / 2 ^ j ≤ r / 2 ^ j + 2 * m → n < r + reach m j
near_to n m j r b h =
    let e = whole r j b in
    let s = shr_split n j in
    let p = mod_below n (2 ^ j) (pow_pos j) in
    let u = mul-le-mul_right (2 ^ j) h in
    let w = add-mul (r / 2 ^ j) (2 * m) (2 ^ j) in
    let x = add-mul (2 * m) 1 (2 ^ j) in
    omega arith

pub near_from : (n m j r : ℕ) → j ≤ top r → n < r + reach m j → n / 2 ^ j ≤ r / 2 ^ j + 2 * m
near_from n m j r b h =
    let e = whole r j b in
    let w = add-mul (r / 2 ^ j) (2 * m + 1) (2 ^ j) in
    let d = div_below n (2 ^ j) (r / 2 ^ j + (2 * m + 1)) (pow_pos j) (omega arith) in
    omega arith

pub keeps_decides : (n m j r : ℕ) → Decides (keeps n m j r) (LevelKeeps n m j r)
unfolding keeps
keeps_decides n m j r = (
  (λ e.
      let a = and_parts _ _ e in
      let b = and_parts _ _ a.1 in
      let g = leb-true _ _ a.0 in
      record { belongs = g; taken = leb-true _ _ b.0; near = near_to n m j r g (leb-true _ _ b.1) }),
  (λ k. and_from _ _ (le-leb _ _ k.belongs) (and_from _ _ (le-leb _ _ k.taken) (le-leb _ _ (near_from n m j r k.belongs k.near)))),
)

-- some level keeps rank r: then its highest level does
abbrev pub Kept : ℕ → ℕ → ℕ → Type 0
Kept n m r = LevelKeeps n m (top r) r

pub keeps_kept : (n m j r : ℕ) → LevelKeeps n m j r → Kept n m r
keeps_kept n m j r k = record { belongs = omega arith; taken = k.taken; near = omega (arith, k.near, reach_mono m j (top r) k.belongs) }

pub kept_decides : (n m r : ℕ) → Decides (kept n m r) (Kept n m r)
unfolding kept
kept_decides n m r =
    Decides-like _ (λ s. keeps_kept n m s.0 r s.2) (λ k. (top r, omega (arith, top_le r), k))
    (any_decides (λ j. keeps n m j r) (λ j. LevelKeeps n m j r) (λ j. keeps_decides n m j r) 12)

-- later, a rank that is still kept was kept before
pub kept_before : (n m r : ℕ) → r ≤ n → Kept (n + 1) m r → Kept n m r
kept_before n m r h k = record { belongs = omega arith; taken = h; near = omega (arith, k.near) }

pub kept_newest : (n m : ℕ) → Kept n m n
kept_newest n m = record { belongs = omega arith; taken = omega arith; near = omega (arith, reach_pos m (top n), pow_pos (top n)) }

-- the rank of level j that is d before its newest; the mark where there are fewer
abbrev pub back : ℕ → ℕ → ℕ → ℕ
back n d j = (n / 2 ^ j - d) * 2 ^ j

pub back_le : (n d j : ℕ) → back n d j ≤ n
back_le n d j =
    let s = shr_split n j in
    let l : n / 2 ^ j - d ≤ n / 2 ^ j = omega arith in
    omega (arith, mul-le-mul_right (2 ^ j) l)

pub back_keeps : (n m d j : ℕ) → j ≤ 11 → d ≤ 2 * m → LevelKeeps n m j (back n d j)
back_keeps n m d j h k = record {
  belongs = divides_top (n / 2 ^ j - d) j h;
  taken = back_le n d j;
  near =
      let s = shr_split n j in
      let p = mod_below n (2 ^ j) (pow_pos j) in
      let l : n / 2 ^ j ≤ (n / 2 ^ j - d) + 2 * m = omega arith in
      let u = mul-le-mul_right (2 ^ j) l in
      let w = add-mul (n / 2 ^ j - d) (2 * m) (2 ^ j) in
      let x = add-mul (2 * m) 1 (2 ^ j) in
      omega arith;
}

-- every rank that level j keeps is one of these
pub keeps_back : (n m j r : ℕ) → LevelKeeps n m j r → (d : ℕ) × (d ≤ 2 * m) × (back n d j ≡ r)
keeps_back n m j r k =
    let near = near_from n m j r k.belongs k.near in
    let mono = shr_mono j k.taken in
    let e : n / 2 ^ j - (n / 2 ^ j - r / 2 ^ j) ≡ r / 2 ^ j = omega arith in
    (n / 2 ^ j - r / 2 ^ j, omega arith, ap (λ x. x * 2 ^ j) e ∙ whole r j k.belongs)

-- the oldest rank that level j keeps
abbrev pub oldest : ℕ → ℕ → ℕ → ℕ
oldest n m j = back n (2 * m) j

pub oldest_keeps : (n m j : ℕ) → j ≤ 11 → LevelKeeps n m j (oldest n m j)
oldest_keeps n m j h = back_keeps n m (2 * m) j h (omega arith)

-- where it is not the mark, 2 m ranks of its level are newer
pub oldest_far : (n m j : ℕ) → 0 < oldest n m j → oldest n m j + 2 * m * 2 ^ j ≤ n
oldest_far n m j h =
    let s = shr_split n j in
    ⊎_elim
    (λ (l : 2 * m < n / 2 ^ j).
    let e : (n / 2 ^ j - 2 * m) + 2 * m ≡ n / 2 ^ j = omega arith in
    let w = add-mul (n / 2 ^ j - 2 * m) (2 * m) (2 ^ j) in
    let z : ((n / 2 ^ j - 2 * m) + 2 * m) * 2 ^ j ≡ n / 2 ^ j * 2 ^ j = ap (λ x. x * 2 ^ j) e in
    omega arith)
    (λ l. let e : n / 2 ^ j - 2 * m ≡ 0 = omega arith in
    let z : oldest n m j ≡ 0 * 2 ^ j = ap (λ x. x * 2 ^ j) e in absurd (omega arith))
    (cases_lt (2 * m) (n / 2 ^ j))

-- the first rank of level j after q
pub after : ℕ → ℕ → ℕ
after q j = (q / 2 ^ j + 1) * 2 ^ j

pub after_near : (q j : ℕ) → (q < after q j) × (after q j ≤ q + 2 ^ j)
unfolding after
after_near q j =
    let s = shr_split q j in
    let p = mod_below q (2 ^ j) (pow_pos j) in
    let w = add-mul (q / 2 ^ j) 1 (2 ^ j) in
    (omega arith, omega arith)

pub after_top : (q j : ℕ) → j ≤ 11 → j ≤ top (after q j)
unfolding after
after_top q j h = divides_top (q / 2 ^ j + 1) j h

-- a level keeps its newest 2 m + 1 ranks
pub newest_decides : (n m j r : ℕ) → j ≤ 11 → Decides (keeps n m j r) (Newest n m j r)
newest_decides n m j r h =
    Decides-like _
    (λ k. keeps_back n m j r k)
    (λ s. let P : ℕ → Type 0 = λ z. LevelKeeps n m j z in subst P s.2 (back_keeps n m s.0 j h s.1))
    (keeps_decides n m j r)
