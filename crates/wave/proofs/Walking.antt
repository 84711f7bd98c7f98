-- The walk from one kept rank to the next below it.
use Rattle.std.proofs.Common.{◌≡◌, ℕ, ◌+◌, ◌-◌, ◌*◌, ◌/◌, ◌^◌, ◌<◌, ◌≤◌, true, Some, ap, ⊎_elim, mul-le-mul_right, add-mul, arith}
use Rattle.std.proofs.Math.Pow.{shr_mono}
use Rattle.std.proofs.lemmas.Bool.{cases_lt}
use Rattle.std.proofs.lemmas.Nat.{pow_pos, shr_split}
use Rattle.wave.specs.Ranks.{top, kept}
use Rattle.wave.specs.Walks.{StandsAt, Older}
use Rattle.wave.specs.Levels.{LevelKeeps, reach, keeps_decides, kept_decides, top_le, top_divides, divides_top, whole}

-- the kept ranks below r are not after next, and belong to level j
pub record Coming (n m r next j : ℕ) : Type 0 where
  pub below : next < r
  pub bound : (x : ℕ) → kept n m x ≡ true → x < r → x ≤ next
  pub level : (x : ℕ) → kept n m x ≡ true → x < r → j ≤ top x

-- two ranks of a level lie a gap apart
gap_apart : (x r j : ℕ) → j ≤ top x → j ≤ top r → x < r → x + 2 ^ j ≤ r
gap_apart x r j bx br less =
    let a = top_divides x j bx in
    let b = top_divides r j br in
    ⊎_elim
    (λ (l : a.0 < b.0).
    let s : a.0 + 1 ≤ b.0 = omega arith in
    let u = mul-le-mul_right (2 ^ j) s in
    let w = add-mul a.0 1 (2 ^ j) in
    omega (arith, a.1, b.1, u, w))
    (λ (l : b.0 ≤ a.0). let u = mul-le-mul_right (2 ^ j) l in absurd (omega (arith, a.1, b.1, u)))
    (cases_lt a.0 b.0)

pub stand_keeps : (n m j r : ℕ) → StandsAt n m j r → LevelKeeps n m j r
stand_keeps n m j r s = (keeps_decides n m j r).0 s.keeps

pub stand_low : (n m j r : ℕ) → StandsAt n m j r → j < 12
stand_low n m j r s = omega (arith, (stand_keeps n m j r s).belongs, top_le r)

-- no rank is below the gap of its level, but for the mark
pub none_below : (n m j r : ℕ) → StandsAt n m j r → r < 2 ^ j → (x : ℕ) → r ≤ x
none_below n m j r s h x =
    let d = top_divides r j (stand_keeps n m j r s).belongs in
    ⊎_elim
    (λ (l : 0 < d.0). let u = mul-le-mul_right (2 ^ j) l in absurd (omega (arith, d.1, u)))
    (λ (l : d.0 ≤ 0). let u = mul-le-mul_right (2 ^ j) l in omega (arith, d.1, u))
    (cases_lt 0 d.0)

pub coming_taken : (n m j r next i : ℕ) → StandsAt n m j r → Coming n m r next i → next ≤ n
coming_taken n m j r next i s c = omega (arith, c.below, (stand_keeps n m j r s).taken)

pub coming_first : (n m j r : ℕ) → StandsAt n m j r → 2 ^ j ≤ r → Coming n m r (r - 2 ^ j) j
coming_first n m j r s h = record {
  below = omega (arith, pow_pos j);
  bound = λ x k less. omega (arith, gap_apart x r j (s.lowest x k (omega arith)) (stand_keeps n m j r s).belongs less);
  level = λ x k less. s.lowest x k (omega arith);
}

pub coming_rounded : (n m r next j y : ℕ) → y ≡ next / 2 ^ j * 2 ^ j → Coming n m r next j → Coming n m r y j
coming_rounded n m r next j y e c = record {
  below = omega (arith, c.below, shr_split next j);
  bound = λ x k less.
      let u = mul-le-mul_right (2 ^ j) (shr_mono j (c.bound x k less)) in
      omega (arith, u, whole x j (c.level x k less));
  level = c.level;
}

pub coming_higher : (n m r next j : ℕ) → Coming n m r next j → reach m j ≤ n - next → next ≤ n → Coming n m r next (j + 1)
coming_higher n m r next j c far le = record {
  below = c.below;
  bound = c.bound;
  level = λ x k less.
      ⊎_elim
      (λ (l : j < top x). omega arith)
      (λ (l : top x ≤ j).
      let e : top x ≡ j = omega (arith, c.level x k less) in
      absurd (omega (arith, ((kept_decides n m x).0 k).near, ap (reach m) e, c.bound x k less)))
      (cases_lt j (top x));
}

pub coming_found : (n m r next j y : ℕ) → y ≡ next / 2 ^ j * 2 ^ j → j ≤ 11 → Coming n m r y j → n - y < reach m j → y ≤ n → Older n m r (Some (y, j))
coming_found n m r next j y e h c near le = (
  c.below,
  record {
    keeps = (keeps_decides n m j y).1 (record { belongs = rw e (divides_top (next / 2 ^ j) j h); taken = le; near = omega arith });
    lowest = λ x k l. c.level x k (omega (arith, c.below));
  },
  c.bound,
)
