-- A walk meets one rank more, and its end: what it has seen is what the wave counts.
use Rattle.std.proofs.Common.{◌≡◌, ℕ, ◌+◌, ◌-◌, ◌<◌, ◌≤◌, min, Bool, true, false, cond, length, is_some, Some, None, Decides, Option, unwrap_or, sym, refl, ap, ◌∙◌, subst, inr, ⊎_elim, arith}
use Rattle.std.proofs.lemmas.Bool.{and_from, le-leb, cases_lt, cases_eq, cases_Bool, cond-true, cond-false, both_ways}
use Rattle.std.proofs.lemmas.Bool.Decides.{nat_tests, Decides-at}
use Rattle.window.specs.Settings.{in_range}
use Rattle.wave.specs.Waves.{stamp_of, rank_live, oldest_live, newest_dead, low_of, high_of, sound, wave_low, wave_high}
use Rattle.wave.specs.Soundness.{Sound}
use Rattle.wave.specs.Walks.{StandsAt, Older, fits, looked, estimated_by, estimated}
use Rattle.wave.specs.declared.Wave.{Wave}
use Rattle.wave.specs.declared.survey.Seen.{Seen}
use Rattle.wave.specs.Levels.{keeps_kept, keeps_decides, reach_pos}
use Rattle.wave.specs.Bounds.{Held, rank_pos, oldest_least, oldest_is, newest_is, newest_none}
use Rattle.wave.specs.Parts.{held, held_kept, sound_decides}
use Rattle.wave.specs.Sounds.{high_none}
use Rattle.wave.proofs.Seeing.{LowOf, HighOf, Sees, LowFrom, HighFrom, sees_none, sees_down, fits_stamp, fits_few, sound_fits}

-- the largest dead rank, where rank r is met
high_more : (c : Wave) (t v r : ℕ) (h : Option ℕ) → Held c r → HighOf c t v (r + 1) h → HighOf c t v r (cond (rank_live c t v r) h (Some (unwrap_or h (c.taken - r))))
high_more c t v r None k f =
    ⊎_elim
    (λ (y : rank_live c t v r ≡ true).
    rw y (λ x met kx. ⊎_elim (λ (e : x ≡ r). ap (rank_live c t v) e ∙ y) (λ ne. f x (omega arith) kx) (cases_eq x r)))
    (λ (d : rank_live c t v r ≡ false).
    rw d (record {
      rank = r;
      held = k;
      dead = d;
      met = omega arith;
      is = refl;
      most = λ x met kx dx. ⊎_elim (λ (e : x ≡ r). omega arith) (λ ne. absurd (both_ways (rank_live c t v x) dx (f x (omega arith) kx))) (cases_eq x r);
    }))
    (cases_Bool (rank_live c t v r))
high_more c t v r (Some h) k f =
    let more : ((x : ℕ) → x ≡ r → rank_live c t v x ≡ false → x ≤ f.rank) → HighFrom c t v r h =
    λ at. record {
      rank = f.rank;
      held = f.held;
      dead = f.dead;
      met = omega (arith, f.met);
      is = f.is;
      most = λ x met kx dx. ⊎_elim (λ (e : x ≡ r). at x e dx) (λ ne. f.most x (omega arith) kx dx) (cases_eq x r);
    } in
    let here : HighFrom c t v r h = more (λ x e d. omega (arith, f.met)) in
    ⊎_elim (λ (y : rank_live c t v r ≡ true). rw y here) (λ (d : rank_live c t v r ≡ false). rw d here) (cases_Bool (rank_live c t v r))

-- the smallest live rank, where rank r is met
low_more : (c : Wave) (t v r : ℕ) (l : Option ℕ) → Held c r → LowOf c t v (r + 1) l → LowOf c t v r (cond (rank_live c t v r) (Some (c.taken - r + 1)) l)
low_more c t v r None k f =
    ⊎_elim
    (λ (y : rank_live c t v r ≡ true). rw y (record { rank = r; held = k; alive = y; is = refl; least = λ x met kx e. met }))
    (λ (d : rank_live c t v r ≡ false). rw d (λ x met kx. ⊎_elim (λ (e : x ≡ r). ap (rank_live c t v) e ∙ d) (λ ne. f x (omega arith) kx) (cases_eq x r)))
    (cases_Bool (rank_live c t v r))
low_more c t v r (Some l) k f =
    ⊎_elim
    (λ (y : rank_live c t v r ≡ true). rw y (record { rank = r; held = k; alive = y; is = refl; least = λ x met kx e. met }))
    (λ (d : rank_live c t v r ≡ false).
    rw d (record {
      rank = f.rank;
      held = f.held;
      alive = f.alive;
      is = f.is;
      least = λ x met kx y. ⊎_elim (λ (e : x ≡ r). absurd (both_ways (rank_live c t v r) d (ap (rank_live c t v) (sym e) ∙ y))) (λ ne. f.least x (omega arith) kx y) (cases_eq x r);
    }))
    (cases_Bool (rank_live c t v r))

-- one rank more
pub sees_more : (c : Wave) (t v r : ℕ) (s : Seen) → Held c r → fits c r (stamp_of c r) s.oldest ≡ true → Sees c t v (r + 1) s → Sees c t v r (looked c t v r s)
sees_more c t v r s k fit f =
    let pos : 0 < r + 1 = omega arith in
    record {
      order = λ a b some met less ka kb.
          ⊎_elim
          (λ (e : a ≡ r). omega (arith, ap (stamp_of c) e, fits_stamp c r s.oldest (omega arith) fit, f.oldest pos b (omega arith) kb))
          (λ ne. f.order a b some (omega arith) less ka kb)
          (cases_eq a r);
      late = λ x some met kx.
          ⊎_elim
          (λ (e : x ≡ r). omega (arith, ap (stamp_of c) e, fits_stamp c r s.oldest (omega arith) fit, f.oldest_late pos))
          (λ ne. f.late x some (omega arith) kx)
          (cases_eq x r);
      few = λ x met kx y.
          ⊎_elim
          (λ (e : x ≡ r). omega (arith, fits_few c r s.oldest fit (ap (rank_live c c.last c.window) (sym e) ∙ y)))
          (λ ne. f.few x (omega arith) kx y)
          (cases_eq x r);
      oldest = λ some x met kx.
          ⊎_elim
          (λ (e : x ≡ r). omega (arith, ap (stamp_of c) e))
          (λ ne. omega (arith, fits_stamp c r s.oldest some fit, f.oldest pos x (omega arith) kx))
          (cases_eq x r);
      oldest_late = λ some. omega (arith, fits_stamp c r s.oldest some fit, f.oldest_late pos);
      oldest_is = λ some. inr (record { rank = r; held = k; met = omega arith; is = refl });
      low_is = low_more c t v r s.low k f.low_is;
      high_is = high_more c t v r s.high k f.high_is;
    }

-- where the walk stands, all kept ranks above are seen; at its end, all
abbrev pub Walked : Wave → ℕ → ℕ → Option (ℕ × ℕ) → Seen → Type 0
Walked c t v None s = Sees c t v 0 s
Walked c t v (Some stand) s = StandsAt c.taken c.fineness stand.1 stand.0 × Sees c t v (stand.0 + 1) s

standing : (c : Wave) (j r : ℕ) → StandsAt c.taken c.fineness j r → Held c r
standing c j r s = keeps_kept c.taken c.fineness j r ((keeps_decides c.taken c.fineness j r).0 s.keeps)

pub walk_reached : (c : Wave) (t v r j : ℕ) (s : Seen) → Walked c t v (Some (r, j)) s → r ≤ c.taken
walk_reached c t v r j s w = (standing c j r w.0).taken

pub walk_first : (c : Wave) (t v : ℕ) → Walked c t v (Some (c.taken, 0)) (record { oldest = c.last; low = None; high = None })
walk_first c t v = (
  record {
    keeps = (keeps_decides c.taken c.fineness 0 c.taken).1 (record { belongs = omega arith; taken = omega arith; near = omega (arith, reach_pos c.fineness 0) });
    lowest = λ x k l. omega arith;
  },
  sees_none c t v,
)

pub walk_on : (c : Wave) (t v r : ℕ) (s : Seen) (next : Option (ℕ × ℕ)) → Older c.taken c.fineness r next → Sees c t v r s → Walked c t v next s
walk_on c t v r s None o f = sees_down c t v r 0 s (omega arith) (λ x met k. o x (held_kept c x k)) f
walk_on c t v r s (Some stand) o f = (
  o.1,
  sees_down c t v r (stand.0 + 1) s (omega (arith, o.0))
      (λ x met k. ⊎_elim (λ (l : x < r). absurd (omega (arith, o.2 x (held_kept c x k) l))) (λ l. l) (cases_lt x r))
      f,
)

-- the walk has met every kept rank, and each fits
pub all_sound : (c : Wave) (t v : ℕ) (s : Seen) → 1 ≤ c.window → c.window ≤ 4294967295 → 1 ≤ c.fineness → c.fineness ≤ 6 → length c.stamps ≡ 104 → Sees c t v 0 s → Sound c
all_sound c t v s some fit least most places f = record {
  window_some = some;
  window_fits = fit;
  fineness_least = least;
  fineness_most = most;
  has_places = places;
  stamps_rise = λ a b pos less ka kb. f.order a b pos (omega arith) less (held c a ka) (held c b kb);
  stamps_not_late = λ r pos k. f.late r pos (omega arith) (held c r k);
  low_within_limit =
      let p = oldest_live c c.last c.window in
      ⊎_elim
      (λ (none : c.taken < p). omega arith)
      (λ (l : p ≤ c.taken). let o = oldest_is c c.last c.window l in omega (arith, f.few p (omega arith) o.0 o.1))
      (cases_lt c.taken p);
}

all_low : (c : Wave) (t v low : ℕ) → LowFrom c t v 0 low → (oldest_live c t v ≤ c.taken) × (low ≡ low_of c t v)
all_low c t v low f =
    let most = oldest_least c t v f.rank f.held f.alive in
    let some : oldest_live c t v ≤ c.taken = omega (arith, most, f.held.taken) in
    let o = oldest_is c t v some in
    (some, omega (arith, f.is, f.held.taken, most, f.least (oldest_live c t v) (omega arith) o.0 o.1))

all_high : (c : Wave) (t v low : ℕ) (h : Option ℕ) → oldest_live c t v ≤ c.taken → low ≡ low_of c t v → HighOf c t v 0 h → unwrap_or h low ≡ c.taken - newest_dead c t v
all_high c t v low None some e f =
    let o = oldest_is c t v some in
    omega (arith, e, newest_none c t v (λ r k. f r (omega arith) k), rank_pos c t v (oldest_live c t v) o.1)
all_high c t v low (Some h) some e f =
    let g = newest_is c t v f.rank f.held f.dead in
    omega (arith, f.is, g.0, f.most (newest_dead c t v) (omega arith) g.1 g.2)

both : (a b x y : ℕ) → a ≡ x → b ≡ y → ◌≡◌ {A = ℕ × ℕ} (a, b) (x, y)
both a b x y p q = cc

all_seen : (c : Wave) (t v : ℕ) (low high : Option ℕ) → LowOf c t v 0 low → HighOf c t v 0 high → estimated_by low high ≡ (low_of c t v, high_of c t v)
all_seen c t v None high l h =
    let none : c.taken < oldest_live c t v =
    ⊎_elim
    (λ (n : c.taken < oldest_live c t v). n)
    (λ (some : oldest_live c t v ≤ c.taken). let o = oldest_is c t v some in absurd (both_ways (rank_live c t v (oldest_live c t v)) (l (oldest_live c t v) (omega arith) o.0) o.1))
    (cases_lt c.taken (oldest_live c t v)) in
    both 0 0 (low_of c t v) (high_of c t v) (omega arith) (sym (high_none c t v (omega arith)))
all_seen c t v (Some low) high l h =
    let is = all_low c t v low l in
    let top = all_high c t v low high is.0 is.1 h in
    both low (min (unwrap_or high low) 8190) (low_of c t v) (high_of c t v) is.1 (ap (λ x. min x 8190) top ∙ sym (cond-true _ _ _ (le-leb _ _ is.0)))

pub all_estimated : (c : Wave) (t v : ℕ) (s : Seen) → Sees c t v 0 s → estimated s ≡ (low_of c t v, high_of c t v)
all_estimated c t v s f = all_seen c t v s.low s.high f.low_is f.high_is

-- what a survey gives: low and high where the wave is sound, else nothing
pub record Surveyed (c : Wave) (t v : ℕ) (r : Option (ℕ × ℕ)) : Type 0 where
  pub surveyed : r ≡ cond (sound c) (Some (low_of c t v, high_of c t v)) None
  pub tested : Decides (is_some r) (Sound c)

some_sound : (b : Bool) (x : ℕ × ℕ) → is_some (cond b (Some x) None) ≡ b
some_sound true x = refl
some_sound false x = refl

surveys : (c : Wave) (t v : ℕ) (r : Option (ℕ × ℕ)) → r ≡ cond (sound c) (Some (low_of c t v, high_of c t v)) None → Surveyed c t v r
surveys c t v r e = record { surveyed = e; tested = Decides-at (is_some r) (sound c) (ap is_some e ∙ some_sound (sound c) (low_of c t v, high_of c t v)) (sound_decides c) }

pub surveyed_all : (c : Wave) (t v : ℕ) (s : Seen) (r : ℕ × ℕ) → r ≡ estimated s → Sound c → Sees c t v 0 s → Surveyed c t v (Some r)
surveyed_all c t v s r e good f =
    surveys c t v (Some r) (ap Some (e ∙ all_estimated c t v s f) ∙ sym (cond-true (sound c) (Some (low_of c t v, high_of c t v)) None ((sound_decides c).1 good)))

pub surveyed_none : (c : Wave) (t v : ℕ) → (Sound c → ⊥) → Surveyed c t v None
surveyed_none c t v bad =
    surveys c t v None
    (⊎_elim
    (λ y. absurd (bad ((sound_decides c).0 y)))
    (λ d. sym (cond-false (sound c) (Some (low_of c t v, high_of c t v)) None d))
    (cases_Bool (sound c)))

-- a walk over a sound wave is not broken off
pub broken_off : (c : Wave) (t v r j : ℕ) (s : Seen) → Walked c t v (Some (r, j)) s → None ≡ cond (fits c r (stamp_of c r) s.oldest) (Some (looked c t v r s)) None → Sound c → ⊥
broken_off c t v r j s w e good =
    let fit = sound_fits c t v r s good w.1 (standing c j r w.0) in
    let some = cond-true (fits c r (stamp_of c r) s.oldest) (Some (looked c t v r s)) None fit in
    let z : ◌≡◌ {A = ℕ} 0 1 = cc in
    omega arith

-- where it goes on, one rank more is seen
pub goes_on : (c : Wave) (t v r j : ℕ) (s more : Seen) → Walked c t v (Some (r, j)) s → Some more ≡ cond (fits c r (stamp_of c r) s.oldest) (Some (looked c t v r s)) None → Sees c t v r more
goes_on c t v r j s more w e =
    ⊎_elim
    (λ (fit : fits c r (stamp_of c r) s.oldest ≡ true).
    let some = cond-true (fits c r (stamp_of c r) s.oldest) (Some (looked c t v r s)) None fit in
    let same : looked c t v r s ≡ more = cc in
    let P : Seen → Type 0 = λ z. Sees c t v r z in
    subst P same (sees_more c t v r s (standing c j r w.0) fit w.1))
    (λ (un : fits c r (stamp_of c r) s.oldest ≡ false).
    let none = cond-false (fits c r (stamp_of c r) s.oldest) (Some (looked c t v r s)) None un in
    let z : ◌≡◌ {A = ℕ} 0 1 = cc in
    absurd (omega arith))
    (cases_Bool (fits c r (stamp_of c r) s.oldest))

-- the settings of a sound wave
pub ranges : (w m : ℕ) → in_range w m ≡ true → (1 ≤ w) × (w ≤ 4294967295) × (1 ≤ m) × (m ≤ 6)
ranges w m e = (grind (arith, nat_tests), grind (arith, nat_tests), grind (arith, nat_tests), grind (arith, nat_tests))

pub sound_ranges : (c : Wave) → Sound c → in_range c.window c.fineness ≡ true
sound_ranges c s = and_from _ _ (and_from _ _ (le-leb _ _ s.window_some) (le-leb _ _ s.window_fits)) (and_from _ _ (le-leb _ _ s.fineness_least) (le-leb _ _ s.fineness_most))

-- the low and high that a survey tells
pair_or_none : (b : Bool) (low high : ℕ) → unwrap_or {T = ℕ × ℕ} (cond b (Some (low, high)) None) (0, 0) ≡ (cond b low 0, cond b high 0)
pair_or_none true low high = refl
pair_or_none false low high = refl

pub survey_pair : (c : Wave) (t v : ℕ) (r : Option (ℕ × ℕ)) → r ≡ cond (sound c) (Some (low_of c t v, high_of c t v)) None → unwrap_or {T = ℕ × ℕ} r (0, 0) ≡ (wave_low c t v, wave_high c t v)
survey_pair c t v r e = ap (λ (o : Option (ℕ × ℕ)). unwrap_or {T = ℕ × ℕ} o (0, 0)) e ∙ pair_or_none (sound c) (low_of c t v) (high_of c t v)
