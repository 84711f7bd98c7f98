-- How far low and high lie apart, from what the levels keep.
use Rattle.std.specs.Prelude.{◌≡◌, ℕ, zero, suc, ◌+◌, ◌-◌, ◌*◌, ◌^◌, ◌<◌, ◌≤◌, true, false, not, ◌&&◌, nat_lt}
use Rattle.std.proofs.Common.{⊎_elim, arith, mul_assoc, mul-le-mul_left, mul-zero}
use Rattle.std.proofs.lemmas.Bool.{and_parts, and_from, and_cases, and_left, and_right, not-true, not_from_true, not_from_false, ltb-true, lt-ltb, cases_lt, cases_Bool, both_ways}
use Rattle.window.specs.Stamps.{is_live}
use Rattle.wave.specs.Ranks.{kept}
use Rattle.wave.specs.Waves.{is_kept, stamp_of, rank_live, oldest_live, newest_dead, low_of}
use Rattle.wave.specs.declared.Wave.{Wave}
use Rattle.wave.specs.Searching.{first_le, first_least, first_passes, last_greatest, last_none}
use Rattle.wave.specs.Levels.{LevelKeeps, Kept, kept_decides, keeps_kept, oldest, oldest_keeps, oldest_far, after, after_near, after_top, double}

-- some level of the wave keeps rank r
abbrev pub Held : Wave → ℕ → Type 0
Held c r = Kept c.taken c.fineness r

pub rank_pos : (c : Wave) (t v r : ℕ) → rank_live c t v r ≡ true → 0 < r
rank_pos c t v r e = ltb-true 0 r (and_parts (nat_lt 0 r) (is_live t v (stamp_of c r)) e).0

pub stamp_live : (c : Wave) (t v r : ℕ) → rank_live c t v r ≡ true → is_live t v (stamp_of c r) ≡ true
stamp_live c t v r e = (and_parts (nat_lt 0 r) (is_live t v (stamp_of c r)) e).1

pub rank_dead : (c : Wave) (t v r : ℕ) → 0 < r → rank_live c t v r ≡ false → is_live t v (stamp_of c r) ≡ false
rank_dead c t v r h e = ⊎_elim (λ k. absurd (both_ways (nat_lt 0 r) k (lt-ltb 0 r h))) (λ k. k) (and_cases (nat_lt 0 r) (is_live t v (stamp_of c r)) e)

-- the smallest kept live rank
pub oldest_bound : (c : Wave) (t v : ℕ) → oldest_live c t v ≤ c.taken + 1
unfolding oldest_live
oldest_bound c t v = first_le (λ r. is_kept c r && rank_live c t v r) (c.taken + 1) (c.taken + 1) (omega arith)

pub oldest_least : (c : Wave) (t v r : ℕ) → Held c r → rank_live c t v r ≡ true → oldest_live c t v ≤ r
unfolding oldest_live
oldest_least c t v r k e =
    first_least (λ r. is_kept c r && rank_live c t v r) (c.taken + 1) (c.taken + 1) r (omega (arith, k.taken)) (and_from _ _ ((kept_decides c.taken c.fineness r).1 k) e)

pub oldest_is : (c : Wave) (t v : ℕ) → oldest_live c t v ≤ c.taken → Held c (oldest_live c t v) × (rank_live c t v (oldest_live c t v) ≡ true)
unfolding oldest_live
oldest_is c t v h =
    ⊎_elim
    (λ e. absurd (omega (arith, e)))
    (λ s. let a = and_parts (kept c.taken c.fineness (oldest_live c t v)) (rank_live c t v (oldest_live c t v)) s.1 in ((kept_decides c.taken c.fineness (oldest_live c t v)).0 a.0, a.1))
    (first_passes (λ r. is_kept c r && rank_live c t v r) (c.taken + 1) (c.taken + 1))

-- the largest kept dead rank, where there is one
pub newest_is : (c : Wave) (t v r : ℕ) → Held c r → rank_live c t v r ≡ false → (r ≤ newest_dead c t v) × Held c (newest_dead c t v) × (rank_live c t v (newest_dead c t v) ≡ false)
unfolding newest_dead
newest_is c t v r k e =
    let g = last_greatest (λ r. is_kept c r && not (rank_live c t v r)) (oldest_live c t v - 1) (c.taken + 1) r (omega (arith, k.taken)) (and_from _ _ ((kept_decides c.taken c.fineness r).1 k) (not_from_false _ e)) in
    let a = and_parts (kept c.taken c.fineness (newest_dead c t v)) (not (rank_live c t v (newest_dead c t v))) g.2 in
    (g.0, (kept_decides c.taken c.fineness (newest_dead c t v)).0 a.0, not-true _ a.1)

-- where the oldest rank of a level is live, so are its 2 m newer ones
level_live : (c : Wave) (t v j : ℕ) → j ≤ 11 → rank_live c t v (oldest c.taken c.fineness j) ≡ true → oldest_live c t v + 2 * c.fineness * 2 ^ j ≤ c.taken
level_live c t v j h e =
    let n = c.taken in
    let m = c.fineness in
    let k = keeps_kept n m j (oldest n m j) (oldest_keeps n m j h) in
    omega (arith, oldest_least c t v (oldest n m j) k e, oldest_far n m j (rank_pos c t v (oldest n m j) e))

-- where it is dead, the smallest live rank follows the largest dead one within the level's gap
level_dead : (c : Wave) (t v j : ℕ) → j ≤ 11 → rank_live c t v (oldest c.taken c.fineness j) ≡ false → oldest_live c t v ≤ newest_dead c t v + 2 ^ j
level_dead c t v j h e =
    let n = c.taken in
    let m = c.fineness in
    let o = oldest_keeps n m j h in
    let q = newest_dead c t v in
    let g = newest_is c t v (oldest n m j) (keeps_kept n m j (oldest n m j) o) e in
    let a = after_near q j in
    let inside : after q j ≤ n → oldest_live c t v ≤ q + 2 ^ j =
    λ l.
    let k : LevelKeeps n m j (after q j) = record { belongs = after_top q j h; taken = l; near = omega (arith, o.near, g.0, a.0) } in
    let kk = keeps_kept n m j (after q j) k in
    ⊎_elim
    (λ y. omega (arith, oldest_least c t v (after q j) kk y, a.1))
    (λ d. absurd (omega (arith, (newest_is c t v (after q j) kk d).0, a.0)))
    (cases_Bool (rank_live c t v (after q j))) in
    let past : n < after q j → oldest_live c t v ≤ q + 2 ^ j =
    λ l. omega (arith, oldest_bound c t v, a.1) in
    ⊎_elim past inside (cases_lt n (after q j))

-- how far the two bounds lie apart
abbrev pub Gap : Wave → ℕ → ℕ → Type 0
Gap c t v = c.fineness * (c.taken - newest_dead c t v - low_of c t v) ≤ low_of c t v

gap_at : (c : Wave) (t v j : ℕ) → j ≤ 11 → rank_live c t v (oldest c.taken c.fineness j) ≡ false → Gap c t v
gap_at c t v zero h e =
    let z : c.taken - newest_dead c t v - low_of c t v ≡ 0 = omega (arith, level_dead c t v 0 h e) in
    rw (z, mul-zero) (omega arith)
gap_at c t v (suc j) h e =
    let n = c.taken in
    let m = c.fineness in
    ⊎_elim
    (λ y.
    let low = level_live c t v j (omega arith) y in
    let near = level_dead c t v (suc j) h e in
    let d : n - newest_dead c t v - low_of c t v ≤ 2 ^ suc j = omega arith in
    omega (arith, mul-le-mul_left m d, double m j, mul_assoc 2 m (2 ^ j)))
    (λ d. gap_at c t v j (omega arith) d)
    (cases_Bool (rank_live c t v (oldest n m j)))

-- level 11 keeps a dead rank
pub last_dead : (c : Wave) (t v : ℕ) → 1 ≤ c.fineness → low_of c t v ≤ 4095 → rank_live c t v (oldest c.taken c.fineness 11) ≡ false
last_dead c t v one few =
    ⊎_elim
    (λ y. absurd (omega (arith, level_live c t v 11 (omega arith) y)))
    (λ d. d)
    (cases_Bool (rank_live c t v (oldest c.taken c.fineness 11)))

pub gap : (c : Wave) (t v : ℕ) → 1 ≤ c.fineness → low_of c t v ≤ 4095 → Gap c t v
gap c t v one few = gap_at c t v 11 (omega arith) (last_dead c t v one few)

-- where no kept rank is dead, the one before the smallest live one is taken
pub newest_none : (c : Wave) (t v : ℕ) → ((r : ℕ) → Held c r → rank_live c t v r ≡ true) → newest_dead c t v ≡ oldest_live c t v - 1
unfolding newest_dead
newest_none c t v all =
    last_none (λ r. is_kept c r && not (rank_live c t v r)) (oldest_live c t v - 1) (c.taken + 1)
    (λ r h.
    ⊎_elim
    (λ k. and_right (is_kept c r) (not (rank_live c t v r)) (not_from_true (rank_live c t v r) (all r ((kept_decides c.taken c.fineness r).0 k))))
    (λ k. and_left (is_kept c r) (not (rank_live c t v r)) k)
    (cases_Bool (is_kept c r)))
