-- What the tests of a wave decide, part by part.
use Rattle.std.specs.Prelude.{◌≡◌, ℕ, suc, ◌+◌, ◌<◌, ◌≤◌, Bool, true, false, not, ◌||◌, List, Decides, nat_le, slice_index, refl}
use Rattle.std.proofs.Common.{arith}
use Rattle.std.proofs.lemmas.Bool.{and_parts, and_from, leb-true, le-leb, eqb-true, eq-eqb, both_ways}
use Rattle.std.proofs.lemmas.Bool.Decides.{Decides-and, Decides-like, Decides-eqb, Decides-ltb}
use Rattle.window.proofs.Bounded.{all_decides}
use Rattle.wave.specs.Waves.{is_kept, stamp_of, rises, none_late, sound, agrees, wave_stands}
use Rattle.wave.specs.Soundness.{Sound, StandsFor}
use Rattle.wave.specs.declared.Wave.{Wave}
use Rattle.wave.specs.Levels.{kept_decides}
use Rattle.wave.specs.Bounds.{Held}

implied : (a b : Bool) {P Q : Type 0} → Decides a P → Decides b Q → Decides (not a || b) (P → Q)
implied true b p q = ((λ e _. q.0 e), (λ f. q.1 (f (p.0 refl))))
implied false b p q = ((λ e x. absurd (both_ways false refl (p.1 x))), (λ f. refl))

decides_leb : (a b : ℕ) → Decides (nat_le a b) (a ≤ b)
decides_leb a b = (leb-true a b, le-leb a b)

-- a test decides that it is true
itself : (b : Bool) → Decides b (b ≡ true)
itself b = ((λ e. e), (λ e. e))

pub held : (c : Wave) (r : ℕ) → is_kept c r ≡ true → Held c r
held c r e = (kept_decides c.taken c.fineness r).0 e

pub held_kept : (c : Wave) (r : ℕ) → Held c r → is_kept c r ≡ true
held_kept c r k = (kept_decides c.taken c.fineness r).1 k

rises_decides : (c : Wave) → Decides (rises c) ((a b : ℕ) → 0 < a → a < b → is_kept c a ≡ true → is_kept c b ≡ true → stamp_of c a ≤ stamp_of c b)
unfolding rises
rises_decides c =
    let each = all_decides _ (λ b. (a : ℕ) → a < b → (0 < a) × ((is_kept c a ≡ true) × (is_kept c b ≡ true)) → stamp_of c a ≤ stamp_of c b)
    (λ b. all_decides _ (λ a. (0 < a) × ((is_kept c a ≡ true) × (is_kept c b ≡ true)) → stamp_of c a ≤ stamp_of c b)
    (λ a. implied _ _ (Decides-and _ _ (Decides-ltb 0 a) (Decides-and _ _ (itself (is_kept c a)) (itself (is_kept c b)))) (decides_leb (stamp_of c a) (stamp_of c b))) b) (c.taken + 1) in
    Decides-like _
    (λ f a b pos less ka kb. f b (omega (arith, (held c b kb).taken)) a less (pos, (ka, kb)))
    (λ f b _ a less p. f a b p.0 less p.1.0 p.1.1)
    each

none_late_decides : (c : Wave) → Decides (none_late c) ((r : ℕ) → 0 < r → is_kept c r ≡ true → stamp_of c r ≤ c.last)
unfolding none_late
none_late_decides c =
    Decides-like _
    (λ f r pos k. f r (omega (arith, (held c r k).taken)) (pos, k))
    (λ f r _ p. f r p.0 p.1)
    (all_decides _ (λ r. (0 < r) × (is_kept c r ≡ true) → stamp_of c r ≤ c.last)
    (λ r. implied _ _ (Decides-and _ _ (Decides-ltb 0 r) (itself (is_kept c r))) (decides_leb (stamp_of c r) c.last)) (c.taken + 1))

pub sound_decides : (c : Wave) → Decides (sound c) (Sound c)
unfolding sound
sound_decides c = (
  (λ e.
      let a = and_parts _ _ e in
      let b = and_parts _ _ a.0 in
      let w = and_parts _ _ b.0 in
      let d = and_parts _ _ b.1 in
      let f = and_parts _ _ a.1 in
      let g = and_parts _ _ f.1 in
      let h = and_parts _ _ g.0 in
      record {
        window_some = leb-true _ _ w.0;
        window_fits = leb-true _ _ w.1;
        fineness_least = leb-true _ _ d.0;
        fineness_most = leb-true _ _ d.1;
        has_places = eqb-true _ _ f.0;
        stamps_rise = (rises_decides c).0 h.0;
        stamps_not_late = (none_late_decides c).0 h.1;
        low_within_limit = leb-true _ _ g.1;
      }),
  (λ s.
      and_from _ _
      (and_from _ _ (and_from _ _ (le-leb _ _ s.window_some) (le-leb _ _ s.window_fits)) (and_from _ _ (le-leb _ _ s.fineness_least) (le-leb _ _ s.fineness_most)))
      (and_from _ _ (eq-eqb _ _ s.has_places) (and_from _ _ (and_from _ _ ((rises_decides c).1 s.stamps_rise) ((none_late_decides c).1 s.stamps_not_late)) (le-leb _ _ s.low_within_limit)))),
)

agrees_decides : (c : Wave) (xs : List ℕ) → Decides (agrees c xs) ((i : ℕ) → is_kept c (suc i) ≡ true → stamp_of c (suc i) ≡ slice_index xs i)
unfolding agrees
agrees_decides c xs =
    Decides-like _
    (λ f i k. f i (omega (arith, (held c (suc i) k).taken)) k)
    (λ f i _ k. f i k)
    (all_decides _ (λ i. is_kept c (suc i) ≡ true → stamp_of c (suc i) ≡ slice_index xs i)
    (λ i. implied _ _ (itself (is_kept c (suc i))) (Decides-eqb (stamp_of c (suc i)) (slice_index xs i))) c.taken)

pub stands_decides : (c : Wave) (xs : List ℕ) → Decides (wave_stands c xs) (StandsFor c xs)
stands_decides c xs = (
  (λ e.
      let a = and_parts _ _ e in
      let b = and_parts _ _ a.1 in
      let d = and_parts _ _ b.0 in
      let f = and_parts _ _ d.1 in
      record {
        sound = (sound_decides c).0 a.0;
        has_taken = eqb-true _ _ d.0;
        ascends = f.0;
        ends_with_last = eqb-true _ _ f.1;
        holds_stamps = (agrees_decides c xs).0 b.1;
      }),
  (λ s.
      and_from _ _ ((sound_decides c).1 s.sound)
      (and_from _ _ (and_from _ _ (eq-eqb _ _ s.has_taken) (and_from _ _ s.ascends (eq-eqb _ _ s.ends_with_last))) ((agrees_decides c xs).1 s.holds_stamps))),
)
