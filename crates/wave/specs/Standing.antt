-- The live number of each list that a wave stands for lies between low and high.
use Rattle.std.specs.Prelude.{◌≡◌, ℕ, zero, suc, ◌+◌, ◌-◌, ◌*◌, ◌<◌, ◌≤◌, true, false, List, length, slice_index}
use Rattle.std.proofs.Common.{sym, ap, ◌∙◌, ⊎_elim, arith, mul-zero}
use Rattle.std.proofs.lemmas.Bool.{cases_lt, cases_Bool, cond-true, cond-false}
use Rattle.window.specs.Meaning.{Keeps}
use Rattle.window.specs.Stamps.{is_live, live_count}
use Rattle.window.proofs.Arrivals.{live_le}
use Rattle.window.proofs.Newest.{live_from, dead_to}
use Rattle.wave.specs.Waves.{stamp_of, rank_live, oldest_live, newest_dead, low_of, high_of, sound, wave_stands, wave_low, wave_high, wave_model}
use Rattle.wave.specs.Soundness.{StandsFor}
use Rattle.wave.specs.declared.Wave.{Wave}
use Rattle.wave.specs.Levels.{kept_newest}
use Rattle.wave.specs.Bounds.{Held, rank_pos, stamp_live, rank_dead, oldest_least, oldest_is}
use Rattle.wave.specs.Parts.{held_kept, sound_decides, stands_decides}
use Rattle.wave.specs.Sounds.{dead_held, high_some, narrow_sound, small_sound}

-- the stamp of a kept rank in the list
in_list : (c : Wave) (xs : List ℕ) (r : ℕ) → StandsFor c xs → 0 < r → Held c r → stamp_of c r ≡ slice_index xs (r - 1)
in_list c xs zero s pos k = absurd (omega arith)
in_list c xs (suc i) s pos k = let e : suc i - 1 ≡ i = omega arith in rw e (s.holds_stamps i (held_kept c (suc i) k))

above_stands : (c : Wave) (xs : List ℕ) (t v : ℕ) → StandsFor c xs → c.last ≤ t → v ≤ c.window → low_of c t v ≤ live_count t v xs
above_stands c xs t v s after within =
    ⊎_elim
    (λ (none : c.taken < oldest_live c t v). omega arith)
    (λ some.
    let o = oldest_is c t v some in
    let p = oldest_live c t v in
    let pos = rank_pos c t v p o.1 in
    let y = ap (is_live t v) (sym (in_list c xs p s pos o.0)) ∙ stamp_live c t v p o.1 in
    let less : p - 1 < length xs = omega (arith, s.has_taken) in
    omega (arith, s.has_taken, live_from t v 0 xs (p - 1) s.ascends (omega (arith, s.ends_with_last)) less y))
    (cases_lt c.taken (oldest_live c t v))

-- at most the ranks after a dead one are live
dead_rank : (c : Wave) (xs : List ℕ) (t v r : ℕ) → StandsFor c xs → c.last ≤ t → Held c r → rank_live c t v r ≡ false → live_count t v xs + r ≤ c.taken
dead_rank c xs t v zero s after k e = omega (arith, live_le t v xs, s.has_taken)
dead_rank c xs t v (suc i) s after k e =
    let d = ap (is_live t v) (sym (s.holds_stamps i (held_kept c (suc i) k))) ∙ rank_dead c t v (suc i) (omega arith) e in
    omega (arith, s.has_taken, dead_to t v 0 xs i s.ascends (omega (arith, s.ends_with_last)) (omega (arith, s.has_taken, k.taken)) d)

below_stands : (c : Wave) (xs : List ℕ) (t v : ℕ) → StandsFor c xs → c.last ≤ t → v ≤ c.window → live_count t v xs ≤ high_of c t v
below_stands c xs t v s after within =
    ⊎_elim
    (λ none.
    let k = kept_newest c.taken c.fineness in
    let dead : rank_live c t v c.taken ≡ false =
    ⊎_elim (λ y. absurd (omega (arith, none, oldest_least c t v c.taken k y))) (λ d. d) (cases_Bool (rank_live c t v c.taken)) in
    omega (arith, dead_rank c xs t v c.taken s after k dead))
    (λ some.
    let g = dead_held c t v s.sound after within in
    omega (arith, high_some c t v s.sound after within some, dead_rank c xs t v (newest_dead c t v) s after g.0 g.1))
    (cases_lt c.taken (oldest_live c t v))

-- the rules of every wave, sound or not
above_wave : (c : Wave) (xs : List ℕ) (t v : ℕ) → wave_stands c xs ≡ true → c.last ≤ t → v ≤ c.window → wave_low c t v ≤ live_count t v xs
above_wave c xs t v e after within =
    let s = (stands_decides c xs).0 e in
    let y : wave_low c t v ≡ low_of c t v = cond-true (sound c) (low_of c t v) 0 ((sound_decides c).1 s.sound) in
    omega (arith, y, above_stands c xs t v s after within)

below_wave : (c : Wave) (xs : List ℕ) (t v : ℕ) → wave_stands c xs ≡ true → c.last ≤ t → v ≤ c.window → live_count t v xs ≤ wave_high c t v
below_wave c xs t v e after within =
    let s = (stands_decides c xs).0 e in
    let y : wave_high c t v ≡ high_of c t v = cond-true (sound c) (high_of c t v) 0 ((sound_decides c).1 s.sound) in
    omega (arith, y, below_stands c xs t v s after within)

narrow_wave : (c : Wave) (t v : ℕ) → c.last ≤ t → v ≤ c.window → c.fineness * (wave_high c t v - wave_low c t v) ≤ wave_low c t v
narrow_wave c t v after within =
    ⊎_elim
    (λ y.
    let h : wave_high c t v ≡ high_of c t v = cond-true (sound c) (high_of c t v) 0 y in
    let l : wave_low c t v ≡ low_of c t v = cond-true (sound c) (low_of c t v) 0 y in
    rw (h, l) (narrow_sound c t v ((sound_decides c).0 y) after within))
    (λ d.
    let h : wave_high c t v ≡ 0 = cond-false (sound c) (high_of c t v) 0 d in
    let z : wave_high c t v - wave_low c t v ≡ 0 = omega (arith, h) in
    rw (z, mul-zero) (omega arith))
    (cases_Bool (sound c))

small_wave : (c : Wave) (t v : ℕ) → wave_high c t v ≤ 8190
small_wave c t v =
    ⊎_elim
    (λ y. let h : wave_high c t v ≡ high_of c t v = cond-true (sound c) (high_of c t v) 0 y in omega (arith, h, small_sound c t v))
    (λ d. let h : wave_high c t v ≡ 0 = cond-false (sound c) (high_of c t v) 0 d in omega (arith, h))
    (cases_Bool (sound c))

-- the rules of a window counter
pub wave_keeps : Keeps wave_model
wave_keeps = record {
  list_ascends = λ c xs e. ((stands_decides c xs).0 e).ascends;
  list_has_taken = λ c xs e. ((stands_decides c xs).0 e).has_taken;
  list_ends_with_last = λ c xs e. ((stands_decides c xs).0 e).ends_with_last;
  count_lies_between = λ c t v p xs e. (above_wave c xs t v e p.in_time p.within, below_wave c xs t v e p.in_time p.within);
  estimates_near = λ c t v p. narrow_wave c t v p.in_time p.within;
  high_bounded = λ c t v p. small_wave c t v;
  limit_least = λ c. omega arith;
  limit_most = λ c. omega arith;
}
