-- What a sound wave counts: low and high are near and small.
use Rattle.std.specs.Prelude.{◌≡◌, ℕ, ◌-◌, ◌*◌, ◌<◌, ◌≤◌, true, false}
use Rattle.std.proofs.Common.{sym, ap, ◌∙◌, ⊎_elim, arith, mul-le-mul_right, mul-zero, one-mul}
use Rattle.std.proofs.lemmas.Bool.{and_from, lt-ltb, le-leb, lt-leb, cases_lt, cases_eq, cond-true, cond-false, both_ways}
use Rattle.std.proofs.lemmas.Bool.Decides.{nat_tests}
use Rattle.window.specs.Stamps.{is_live}
use Rattle.window.proofs.Arrivals.{later_live, still_live}
use Rattle.wave.specs.Waves.{stamp_of, rank_live, oldest_live, newest_dead, low_of, high_of}
use Rattle.wave.specs.Soundness.{Sound}
use Rattle.wave.specs.declared.Wave.{Wave}
use Rattle.wave.specs.Levels.{keeps_kept, oldest_keeps}
use Rattle.wave.specs.Bounds.{Held, rank_pos, stamp_live, rank_dead, oldest_least, oldest_is, newest_is, last_dead, gap}
use Rattle.wave.specs.Parts.{held_kept}

pub rise : (c : Wave) (a b : ℕ) → Sound c → 0 < a → a < b → Held c a → Held c b → stamp_of c a ≤ stamp_of c b
rise c a b s pos less ka kb = s.stamps_rise a b pos less (held_kept c a ka) (held_kept c b kb)

pub not_late : (c : Wave) (r : ℕ) → Sound c → 0 < r → Held c r → stamp_of c r ≤ c.last
not_late c r s pos k = s.stamps_not_late r pos (held_kept c r k)

-- at a later time, over no longer a span, the low is no higher
pub low_later : (c : Wave) (t v : ℕ) → Sound c → c.last ≤ t → v ≤ c.window → low_of c t v ≤ 4095
low_later c t v s after within =
    ⊎_elim
    (λ (none : c.taken < oldest_live c t v). omega arith)
    (λ some.
    let o = oldest_is c t v some in
    let p = oldest_live c t v in
    let pos = rank_pos c t v p o.1 in
    let was : rank_live c c.last c.window p ≡ true =
    and_from _ _ (lt-ltb 0 p pos) (still_live t v c.last c.window (stamp_of c p) (stamp_live c t v p o.1) (not_late c p s pos o.0) after within) in
    omega (arith, oldest_least c c.last c.window p o.0 was, s.low_within_limit))
    (cases_lt c.taken (oldest_live c t v))

-- a kept rank is dead
pub dead_held : (c : Wave) (t v : ℕ) → Sound c → c.last ≤ t → v ≤ c.window → Held c (newest_dead c t v) × (rank_live c t v (newest_dead c t v) ≡ false)
dead_held c t v s after within =
    let k = keeps_kept c.taken c.fineness 11 _ (oldest_keeps c.taken c.fineness 11 (omega arith)) in
    let g = newest_is c t v _ k (last_dead c t v s.fineness_least (low_later c t v s after within)) in
    (g.1, g.2)

-- the largest dead rank comes before the smallest live one
pub dead_before : (c : Wave) (t v : ℕ) → Sound c → c.last ≤ t → v ≤ c.window → oldest_live c t v ≤ c.taken → newest_dead c t v < oldest_live c t v
dead_before c t v s after within some =
    let o = oldest_is c t v some in
    let p = oldest_live c t v in
    let q = newest_dead c t v in
    let pos = rank_pos c t v p o.1 in
    let g = dead_held c t v s after within in
    let differ : p ≡ q → ⊥ = λ e. both_ways (rank_live c t v q) g.1 (ap (rank_live c t v) (sym e) ∙ o.1) in
    let less : p < q → ⊥ =
    λ l.
    let up = rise c p q s pos l o.0 g.0 in
    let end = not_late c q s (omega arith) g.0 in
    let y = later_live t v (stamp_of c p) (stamp_of c q) (stamp_live c t v p o.1) up (omega arith) in
    both_ways (is_live t v (stamp_of c q)) (rank_dead c t v q (omega arith) g.1) y in
    ⊎_elim (λ l. l) (λ l. absurd (⊎_elim differ (λ ne. less (omega arith)) (cases_eq p q))) (cases_lt q p)

pub high_whole : (c : Wave) (t v : ℕ) → Sound c → c.last ≤ t → v ≤ c.window → c.taken - newest_dead c t v ≤ 8190
high_whole c t v s after within =
    let few = low_later c t v s after within in
    let g = gap c t v s.fineness_least few in
    let d = c.taken - newest_dead c t v - low_of c t v in
    let u = mul-le-mul_right d s.fineness_least in
    omega (arith, one-mul d)

pub high_some : (c : Wave) (t v : ℕ) → Sound c → c.last ≤ t → v ≤ c.window → oldest_live c t v ≤ c.taken → high_of c t v ≡ c.taken - newest_dead c t v
high_some c t v s after within some =
    cond-true _ _ _ (le-leb _ _ some) ∙ omega (arith, high_whole c t v s after within)

pub high_none : (c : Wave) (t v : ℕ) → c.taken < oldest_live c t v → high_of c t v ≡ 0
high_none c t v none = cond-false _ _ _ (lt-leb _ _ none)

pub narrow_sound : (c : Wave) (t v : ℕ) → Sound c → c.last ≤ t → v ≤ c.window → c.fineness * (high_of c t v - low_of c t v) ≤ low_of c t v
narrow_sound c t v s after within =
    ⊎_elim
    (λ (none : c.taken < oldest_live c t v). let z : high_of c t v - low_of c t v ≡ 0 = omega (arith, high_none c t v none) in rw (z, mul-zero) (omega arith))
    (λ some. let e = high_some c t v s after within some in rw e (gap c t v s.fineness_least (low_later c t v s after within)))
    (cases_lt c.taken (oldest_live c t v))

pub low_high : (c : Wave) (t v : ℕ) → Sound c → c.last ≤ t → v ≤ c.window → low_of c t v ≤ high_of c t v
low_high c t v s after within =
    ⊎_elim
    (λ (none : c.taken < oldest_live c t v). omega arith)
    (λ some. omega (arith, high_some c t v s after within some, dead_before c t v s after within some))
    (cases_lt c.taken (oldest_live c t v))

pub small_sound : (c : Wave) (t v : ℕ) → high_of c t v ≤ 8190
small_sound c t v = grind (arith, nat_tests)
