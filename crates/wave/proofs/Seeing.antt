-- What is known of the kept ranks that a walk has met, from some rank on.
use Rattle.std.proofs.Common.{◌≡◌, ℕ, ◌+◌, ◌-◌, ◌<◌, ◌≤◌, true, false, not, ◌&&◌, ◌||◌, eqb, ltb, leb, ◌⊎◌, Some, None, Option, refl, inl, inr, ⊎_elim, arith}
use Rattle.std.proofs.lemmas.Bool.{and_parts, and_from, or_cases, or_left, or_right, not-true, not_from_false, ltb-true, lt-ltb, leb-true, le-leb, eqb-true, eq-eqb, cases_lt, cases_Bool, both_ways}
use Rattle.window.specs.Stamps.{is_live}
use Rattle.wave.specs.Waves.{stamp_of, rank_live}
use Rattle.wave.specs.Soundness.{Sound}
use Rattle.wave.specs.Walks.{fits}
use Rattle.wave.specs.declared.Wave.{Wave}
use Rattle.wave.specs.declared.survey.Seen.{Seen}
use Rattle.wave.specs.Bounds.{Held, oldest_least}
use Rattle.wave.specs.Sounds.{rise, not_late}

-- the smallest live one of the kept ranks gives the low
pub record LowFrom (c : Wave) (t v from low : ℕ) : Type 0 where
  pub rank : ℕ
  pub held : Held c rank
  pub alive : rank_live c t v rank ≡ true
  pub is : low ≡ c.taken - rank + 1
  pub least : (r : ℕ) → from ≤ r → Held c r → rank_live c t v r ≡ true → rank ≤ r

abbrev pub LowOf : Wave → ℕ → ℕ → ℕ → Option ℕ → Type 0
LowOf c t v from None = (r : ℕ) → from ≤ r → Held c r → rank_live c t v r ≡ false
LowOf c t v from (Some low) = LowFrom c t v from low

-- the largest dead one of the kept ranks gives the high
pub record HighFrom (c : Wave) (t v from high : ℕ) : Type 0 where
  pub rank : ℕ
  pub held : Held c rank
  pub dead : rank_live c t v rank ≡ false
  pub met : from ≤ rank
  pub is : high ≡ c.taken - rank
  pub most : (r : ℕ) → from ≤ r → Held c r → rank_live c t v r ≡ false → r ≤ rank

abbrev pub HighOf : Wave → ℕ → ℕ → ℕ → Option ℕ → Type 0
HighOf c t v from None = (r : ℕ) → from ≤ r → Held c r → rank_live c t v r ≡ true
HighOf c t v from (Some high) = HighFrom c t v from high

-- a kept rank has the oldest stamp
pub record OldestFrom (c : Wave) (from oldest : ℕ) : Type 0 where
  pub rank : ℕ
  pub held : Held c rank
  pub met : from ≤ rank
  pub is : oldest ≡ stamp_of c rank

pub record Sees (c : Wave) (t v from : ℕ) (s : Seen) : Type 0 where
  pub order : (a b : ℕ) → 0 < a → from ≤ a → a < b → Held c a → Held c b → stamp_of c a ≤ stamp_of c b
  pub late : (r : ℕ) → 0 < r → from ≤ r → Held c r → stamp_of c r ≤ c.last
  pub few : (r : ℕ) → from ≤ r → Held c r → rank_live c c.last c.window r ≡ true → c.taken - r < 4095
  pub oldest : 0 < from → (r : ℕ) → from ≤ r → Held c r → s.oldest ≤ stamp_of c r
  pub oldest_late : 0 < from → s.oldest ≤ c.last
  pub oldest_is : 0 < from → (s.oldest ≡ c.last) ⊎ OldestFrom c from s.oldest
  pub low_is : LowOf c t v from s.low
  pub high_is : HighOf c t v from s.high

-- before the first rank
pub sees_none : (c : Wave) (t v : ℕ) → Sees c t v (c.taken + 1) (record { oldest = c.last; low = None; high = None })
sees_none c t v = record {
  order = λ a b pos met less ka kb. absurd (omega (arith, ka.taken));
  late = λ r pos met k. absurd (omega (arith, k.taken));
  few = λ r met k e. absurd (omega (arith, k.taken));
  oldest = λ pos r met k. absurd (omega (arith, k.taken));
  oldest_late = λ pos. omega arith;
  oldest_is = λ pos. inl refl;
  low_is = λ r met k. absurd (omega (arith, k.taken));
  high_is = λ r met k. absurd (omega (arith, k.taken));
}

low_down : (c : Wave) (t v from down : ℕ) (l : Option ℕ) → ((r : ℕ) → down ≤ r → Held c r → from ≤ r) → LowOf c t v from l → LowOf c t v down l
low_down c t v from down None none s = λ r met k. s r (none r met k) k
low_down c t v from down (Some l) none s = record { rank = s.rank; held = s.held; alive = s.alive; is = s.is; least = λ r met k y. s.least r (none r met k) k y }

high_down : (c : Wave) (t v from down : ℕ) (h : Option ℕ) → down ≤ from → ((r : ℕ) → down ≤ r → Held c r → from ≤ r) → HighOf c t v from h → HighOf c t v down h
high_down c t v from down None le none s = λ r met k. s r (none r met k) k
high_down c t v from down (Some h) le none s = record { rank = s.rank; held = s.held; dead = s.dead; met = omega (arith, s.met); is = s.is; most = λ r met k d. s.most r (none r met k) k d }

-- no kept rank lies between
pub sees_down : (c : Wave) (t v from down : ℕ) (s : Seen) → down ≤ from → ((r : ℕ) → down ≤ r → Held c r → from ≤ r) → Sees c t v from s → Sees c t v down s
sees_down c t v from down s le none f = record {
  order = λ a b pos met less ka kb. f.order a b pos (none a met ka) less ka kb;
  late = λ r pos met k. f.late r pos (none r met k) k;
  few = λ r met k e. f.few r (none r met k) k e;
  oldest = λ pos r met k. f.oldest (omega arith) r (none r met k) k;
  oldest_late = λ pos. f.oldest_late (omega arith);
  oldest_is = λ pos.
      ⊎_elim (λ e. inl e) (λ o. inr (record { rank = o.rank; held = o.held; met = omega (arith, o.met); is = o.is })) (f.oldest_is (omega arith));
  low_is = low_down c t v from down s.low none f.low_is;
  high_is = high_down c t v from down s.high le none f.high_is;
}

-- what a rank shows that fits
pub fits_stamp : (c : Wave) (r newer : ℕ) → 0 < r → fits c r (stamp_of c r) newer ≡ true → stamp_of c r ≤ newer
fits_stamp c r newer pos e =
    ⊎_elim
    (λ z. absurd (omega (arith, eqb-true r 0 z)))
    (λ z. leb-true _ _ (and_parts (leb (stamp_of c r) newer) (ltb (c.taken - r) 4095 || not (is_live c.last c.window (stamp_of c r))) z).0)
    (or_cases (eqb r 0) (leb (stamp_of c r) newer && (ltb (c.taken - r) 4095 || not (is_live c.last c.window (stamp_of c r)))) e)

pub fits_few : (c : Wave) (r newer : ℕ) → fits c r (stamp_of c r) newer ≡ true → rank_live c c.last c.window r ≡ true → c.taken - r < 4095
fits_few c r newer e y =
    let live = and_parts (ltb 0 r) (is_live c.last c.window (stamp_of c r)) y in
    ⊎_elim
    (λ z. absurd (omega (arith, eqb-true r 0 z, ltb-true 0 r live.0)))
    (λ z.
    let w = and_parts (leb (stamp_of c r) newer) (ltb (c.taken - r) 4095 || not (is_live c.last c.window (stamp_of c r))) z in
    ⊎_elim
    (λ l. ltb-true _ _ l)
    (λ d. absurd (both_ways (is_live c.last c.window (stamp_of c r)) (not-true _ d) live.1))
    (or_cases (ltb (c.taken - r) 4095) (not (is_live c.last c.window (stamp_of c r))) w.1))
    (or_cases (eqb r 0) (leb (stamp_of c r) newer && (ltb (c.taken - r) 4095 || not (is_live c.last c.window (stamp_of c r)))) e)

-- every kept rank of a sound wave fits
pub sound_fits : (c : Wave) (t v r : ℕ) (s : Seen) → Sound c → Sees c t v (r + 1) s → Held c r → fits c r (stamp_of c r) s.oldest ≡ true
sound_fits c t v r s good f k =
    ⊎_elim
    (λ (pos : 0 < r).
    let below : stamp_of c r ≤ s.oldest =
    ⊎_elim
    (λ e. omega (arith, e, not_late c r good pos k))
    (λ o. omega (arith, o.is, rise c r o.rank good pos (omega (arith, o.met)) k o.held))
    (f.oldest_is (omega arith)) in
    let room : (ltb (c.taken - r) 4095 || not (is_live c.last c.window (stamp_of c r))) ≡ true =
    ⊎_elim
    (λ y.
    let least = oldest_least c c.last c.window r k (and_from _ _ (lt-ltb 0 r pos) y) in
    or_left (ltb (c.taken - r) 4095) _ (lt-ltb _ _ (omega (arith, least, good.low_within_limit, k.taken))))
    (λ d. or_right (ltb (c.taken - r) 4095) _ (not_from_false _ d))
    (cases_Bool (is_live c.last c.window (stamp_of c r))) in
    or_right (eqb r 0) _ (and_from _ _ (le-leb _ _ below) room))
    (λ none. or_left (eqb r 0) _ (eq-eqb r 0 (omega arith)))
    (cases_lt 0 r)
