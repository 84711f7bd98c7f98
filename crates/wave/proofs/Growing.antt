-- A sound wave that takes a stamp stays sound, and its lists have the stamp at their end.
use Rattle.std.proofs.Common.{◌≡◌, ℕ, suc, ◌+◌, ◌<◌, ◌≤◌, true, List, [], ◌∷◌, ◌++◌, get_or, set, sym, ap, ◌∙◌, ⊎_elim, arith}
use Rattle.std.proofs.lemmas.Bool.{and_from, lt-ltb, cases_lt, cases_eq, cond-true}
use Rattle.std.proofs.lemmas.List.{length-set, get_or-set_same, get_or-set_other, get_or_push, length_push, get_or_append_left}
use Rattle.window.specs.Stamps.{is_live}
use Rattle.window.proofs.Arrivals.{ascends_push, last_push}
use Rattle.wave.specs.Waves.{place, stamp_of, rank_live, oldest_live, low_of, high_of, sound, arrived}
use Rattle.wave.specs.Soundness.{Sound, StandsFor}
use Rattle.wave.specs.declared.Wave.{Wave}
use Rattle.wave.specs.Levels.{kept_before}
use Rattle.wave.proofs.Places.{place_apart, place_below}
use Rattle.wave.specs.Bounds.{Held, rank_pos, stamp_live, oldest_least, oldest_is}
use Rattle.wave.specs.Parts.{held, held_kept}
use Rattle.wave.specs.Sounds.{rise, not_late, low_high}

-- a sound wave that has taken t
abbrev pub grown_by : Wave → ℕ → Wave
grown_by c t = record {
  window = c.window;
  fineness = c.fineness;
  last = t;
  taken = c.taken + 1;
  stamps = set c.stamps (place (c.taken + 1)) t;
}

pub new_stamp : (c : Wave) (t : ℕ) → Sound c → stamp_of (grown_by c t) (c.taken + 1) ≡ t
new_stamp c t s = get_or-set_same c.stamps (place (c.taken + 1)) t 0 (omega (arith, s.has_places, place_below (c.taken + 1)))

pub old_stamp : (c : Wave) (t r : ℕ) → Sound c → r ≤ c.taken → Held (grown_by c t) r → stamp_of (grown_by c t) r ≡ stamp_of c r
old_stamp c t r s le k = get_or-set_other c.stamps (place (c.taken + 1)) (place r) t 0 (place_apart (c.taken + 1) c.fineness r s.fineness_most (omega arith) k)

old_held : (c : Wave) (t r : ℕ) → r ≤ c.taken → Held (grown_by c t) r → Held c r
old_held c t r le k = kept_before c.taken c.fineness r le k

pub sound_grown : (c : Wave) (t : ℕ) → Sound c → c.last ≤ t → high_of c t c.window < 4095 → Sound (grown_by c t)
sound_grown c t s after free =
    let n = c.taken in
    let d = grown_by c t in
    let late : (r : ℕ) → 0 < r → Held d r → stamp_of d r ≤ t =
    λ r pos k.
    ⊎_elim
    (λ (e : r ≡ n + 1). omega (arith, ap (stamp_of d) e, new_stamp c t s))
    (λ ne. let le : r ≤ n = omega (arith, k.taken) in omega (arith, old_stamp c t r s le k, not_late c r s pos (old_held c t r le k)))
    (cases_eq r (n + 1)) in
    let rises : (a b : ℕ) → 0 < a → a < b → Held d a → Held d b → stamp_of d a ≤ stamp_of d b =
    λ a b pos less ka kb.
    ⊎_elim
    (λ (e : b ≡ n + 1). omega (arith, ap (stamp_of d) e, new_stamp c t s, late a pos ka))
    (λ ne.
    let lb : b ≤ n = omega (arith, kb.taken) in
    let la : a ≤ n = omega arith in
    omega (arith, old_stamp c t a s la ka, old_stamp c t b s lb kb, rise c a b s pos less (old_held c t a la ka) (old_held c t b lb kb)))
    (cases_eq b (n + 1)) in
    let few : low_of d t c.window ≤ 4095 =
    ⊎_elim
    (λ (none : n + 1 < oldest_live d t c.window). omega arith)
    (λ some.
    let o = oldest_is d t c.window some in
    let p = oldest_live d t c.window in
    let pos = rank_pos d t c.window p o.1 in
    ⊎_elim
    (λ (e : p ≡ n + 1). omega arith)
    (λ ne.
    let le : p ≤ n = omega (arith, o.0.taken) in
    let was : rank_live c t c.window p ≡ true =
    and_from _ _ (lt-ltb 0 p pos) (ap (is_live t c.window) (sym (old_stamp c t p s le o.0)) ∙ stamp_live d t c.window p o.1) in
    omega (arith, oldest_least c t c.window p (old_held c t p le o.0) was, low_high c t c.window s after (omega arith)))
    (cases_eq p (n + 1)))
    (cases_lt (n + 1) (oldest_live d t c.window)) in
    record {
      window_some = s.window_some;
      window_fits = s.window_fits;
      fineness_least = s.fineness_least;
      fineness_most = s.fineness_most;
      has_places = length-set c.stamps (place (n + 1)) t ∙ s.has_places;
      stamps_rise = λ a b pos less ka kb. rises a b pos less (held d a ka) (held d b kb);
      stamps_not_late = λ r pos k. late r pos (held d r k);
      low_within_limit = few;
    }

pub stands_grown : (c : Wave) (xs : List ℕ) (t : ℕ) → StandsFor c xs → c.last ≤ t → high_of c t c.window < 4095 → StandsFor (grown_by c t) (xs ++ (t ∷ []))
stands_grown c xs t s after free =
    let n = c.taken in
    let d = grown_by c t in
    record {
      sound = sound_grown c t s.sound after free;
      has_taken = omega (arith, length_push xs t, s.has_taken);
      ascends = ascends_push 0 xs t s.ascends (omega (arith, s.ends_with_last));
      ends_with_last = last_push 0 xs t;
      holds_stamps = λ i kept.
          let k = held d (suc i) kept in
          ⊎_elim
          (λ (e : i ≡ n). let q : suc i ≡ n + 1 = omega arith in ap (stamp_of d) q ∙ new_stamp c t s.sound ∙ sym (get_or_push xs t 0 n s.has_taken) ∙ ap (λ z. get_or (xs ++ (t ∷ [])) z 0) (sym e))
          (λ ne. let le : suc i ≤ n = omega (arith, k.taken) in old_stamp c t (suc i) s.sound le k ∙ s.holds_stamps i (held_kept c (suc i) (old_held c t (suc i) le k)) ∙ sym (get_or_append_left xs (t ∷ []) 0 i (omega (arith, s.has_taken))))
          (cases_eq i n);
    }

pub arrived_sound : (c : Wave) (t : ℕ) → sound c ≡ true → arrived c t ≡ grown_by c t
arrived_sound c t e = ap (λ (z : List ℕ). record { window = c.window; fineness = c.fineness; last = t; taken = c.taken + 1; stamps = z }) (cond-true (sound c) (set c.stamps (place (c.taken + 1)) t) c.stamps e)
