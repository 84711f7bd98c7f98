-- The rules of a taking and of a new wave.
use Rattle.std.proofs.Common.{◌≡◌, ℕ, ◌+◌, ◌<◌, ◌≤◌, min, max, true, [], ◌∷◌, ◌++◌, sym, refl, ap, ◌∙◌, subst, arith}
use Rattle.std.proofs.lemmas.Bool.{lt-leb, cond-true, cond-false}
use Rattle.window.specs.Causes.{Admitted}
use Rattle.window.specs.Meaning.{Fresh}
use Rattle.window.specs.Faults.{Arrived, turn_causes, room_causes, take_causes}
use Rattle.window.proofs.Refusals.{admitted_then}
use Rattle.window.proofs.Estimates.{in_turn}
use Rattle.wave.specs.Waves.{high_of, sound, wave_stands, wave_high, fresh, arrived, wave_model}
use Rattle.wave.specs.Soundness.{Sound}
use Rattle.wave.specs.Takings.{LevelsKeep, Grown}
use Rattle.wave.specs.declared.Wave.{Wave}
use Rattle.wave.specs.Levels.{keeps_kept, keeps_decides, newest_decides, reach_pos}
use Rattle.wave.specs.Parts.{held, sound_decides, stands_decides}
use Rattle.wave.proofs.Growing.{grown_by, new_stamp, old_stamp, sound_grown, stands_grown, arrived_sound}
use Rattle.std.proofs.lemmas.Nat.{pow_pos}

high_sound : (c : Wave) (t v : ℕ) → sound c ≡ true → wave_high c t v ≡ high_of c t v
high_sound c t v y = cond-true (sound c) (high_of c t v) 0 y

-- each list that the wave stood for has t at its end now
pub arrives : (c : Wave) (t : ℕ) → c.last ≤ t → wave_high c t c.window < 4095 → Arrived wave_model c (arrived c t) t
arrives c t after free = record {
  grown = λ xs st.
      let s = (stands_decides c xs).0 st in
      let y = (sound_decides c).1 s.sound in
      let h = high_sound c t c.window y in
      ap (λ z. wave_stands z (xs ++ (t ∷ []))) (arrived_sound c t y) ∙ (stands_decides (grown_by c t) (xs ++ (t ∷ []))).1 (stands_grown c xs t s after (omega (arith, h)));
  settings = record { window = refl; fineness = refl; limit = refl };
}

pub stays_sound : (c : Wave) (t : ℕ) → c.last ≤ t → wave_high c t c.window < 4095 → sound c ≡ true → sound (arrived c t) ≡ true
stays_sound c t after free y =
    let h = high_sound c t c.window y in
    ap sound (arrived_sound c t y) ∙ (sound_decides (grown_by c t)).1 (sound_grown c t ((sound_decides c).0 y) after (omega (arith, h)))

levels_keep : (c : Wave) (t : ℕ) → Sound c → LevelsKeep c (grown_by c t) t
levels_keep c t s =
    let n = c.taken in
    let m = c.fineness in
    record {
      newest = λ j r h. newest_decides (n + 1) m j r h;
      new_rank = λ j h. (keeps_decides (n + 1) m j (n + 1)).1 (record { belongs = h; taken = omega arith; near = omega (arith, reach_pos m j, pow_pos j) });
      new_stamp = new_stamp c t s;
      old_ranks = λ j r le k.
          let b = (keeps_decides (n + 1) m j r).0 k in
          (keeps_decides n m j r).1 (record { belongs = b.belongs; taken = le; near = omega (arith, b.near) });
      old_stamps = λ j r le k. old_stamp c t r s le (keeps_kept (n + 1) m j r ((keeps_decides (n + 1) m j r).0 k));
    }

pub grows : (c : Wave) (t : ℕ) → Grown c (arrived c t) t
grows c t = record {
  arrives = refl;
  levels_keep = λ y. rw (arrived_sound c t y) (levels_keep c t ((sound_decides c).0 y));
  stamps_stay = λ d. cond-false (sound c) _ c.stamps d;
}

-- what a taking owes that no cause refuses
pub record Taken (before after : Wave) (t : ℕ) : Type 0 where
  pub took : Admitted (take_causes wave_model before t) × Arrived wave_model before after t
  pub recorded : Grown before after t
  pub stays_sound : sound before ≡ true → sound after ≡ true

pub takes : (c after : Wave) (t : ℕ) → Admitted (turn_causes c.last c.taken t) → wave_high c t c.window < 4095 → after ≡ arrived c t → Taken c after t
takes c after t admitted free e =
    let turn = in_turn c.last c.taken t admitted in
    let P : Wave → Type 0 = λ z. Taken c z t in
    subst P (sym e) (record {
      took = (admitted_then (turn_causes c.last c.taken t) (room_causes (wave_high c t c.window) 4095) admitted ∙ cond-false _ _ _ (lt-leb _ _ free), arrives c t turn.0 free);
      recorded = grows c t;
      stays_sound = stays_sound c t turn.0 free;
    })

-- a new wave
pub fresh_sound : (w m : ℕ) → 1 ≤ w → w ≤ 4294967295 → 1 ≤ m → m ≤ 6 → Sound (fresh w m)
fresh_sound w m some wide least most =
    let c = fresh w m in
    record {
      window_some = some;
      window_fits = wide;
      fineness_least = least;
      fineness_most = most;
      has_places = refl;
      stamps_rise = λ a b pos less ka kb. absurd (omega (arith, (held c a ka).taken));
      stamps_not_late = λ r pos k. absurd (omega (arith, (held c r k).taken));
      low_within_limit = omega arith;
    }

pub fresh_stands : (w m : ℕ) → 1 ≤ w → w ≤ 4294967295 → 1 ≤ m → m ≤ 6 → wave_stands (fresh w m) [] ≡ true
fresh_stands w m some wide least most =
    (stands_decides (fresh w m) []).1 (record { sound = fresh_sound w m some wide least most; has_taken = refl; ascends = refl; ends_with_last = refl; holds_stamps = λ i k. absurd (omega (arith, (held (fresh w m) _ k).taken)) })

pub makes : (w f : ℕ) (r : Wave) → w ≤ 4294967295 → r ≡ fresh (max 1 w) (max 1 (min 6 f)) → Fresh wave_model w f r × (sound r ≡ true)
makes w f r wide e =
    let W = max 1 w in
    let M = max 1 (min 6 f) in
    let P : Wave → Type 0 = λ z. Fresh wave_model w f z × (sound z ≡ true) in
    subst P (sym e) (
      record {
        window = refl;
        fineness = refl;
        stands_for_empty = fresh_stands W M (omega arith) (omega arith) (omega arith) (omega arith);
        last = refl;
        taken = refl;
      },
      (sound_decides (fresh W M)).1 (fresh_sound W M (omega arith) (omega arith) (omega arith) (omega arith)),
    )
