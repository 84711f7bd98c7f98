-- The draft of a list, as keys rise.
use Rattle.std.proofs.Common.{◌≡◌, ℕ, ◌+◌, ◌^◌, ◌<◌, ◌≤◌, true, false, leb, List, [], ◌∷◌, ◌++◌, map, length, Some, None, Ok, filter, sym, refl, ap, ◌∙◌, subst, ⊎_elim, arith}
use Rattle.std.specs.List.{range_with_len}
use Rattle.std.proofs.lemmas.List.{length_push, map_push}
use Rattle.std.proofs.lemmas.Bool.{cases_lt, le-leb, lt-leb}
use Rattle.arrayvec.specs.ArrayVec.{ArrayVec}
use Rattle.window.specs.Meaning.{Model}
use Rattle.window.proofs.Bounded.{all_from}
use Rattle.sketch.specs.Layout.{Shape, node_of, first_key}
use Rattle.sketch.specs.Nodes.{node_low, node_high, range_low, range_high}
use Rattle.sketch.specs.Answers.{refusing_cells}
use Rattle.listing.specs.declared.Listed.{Listed}
use Rattle.listing.specs.Listing.{high_everywhere}
use Rattle.listing.specs.Answers.{new_levels, Willing, high_at, Reached, EntryAnswer, entry_of, Asked, ListAnswer}
use Rattle.listing.proofs.OwnPiece.{own_piece}
use Rattle.listing.proofs.Rising.{same_above, after_above, within_node, all_new, node_kept}
use Rattle.listing.proofs.Keeping.{kept_yes, kept_skipped, all_fails}

entry_same : (e : Listed) (key low high : ℕ) → e.key ≡ key → e.low ≡ low → e.high ≡ high → e ≡ record { key = key; low = low; high = high }
entry_same e key low high a b c =
    let at : ℕ → ℕ → ℕ → Listed = λ k l h. record { key = k; low = l; high = h } in
    ap (λ k. at k e.low e.high) a ∙ ap (λ l. at key l e.high) b ∙ ap (at key low) c

-- the draft holds the list as far as the keys below x say, and the nodes of x above its new levels reach g
pub record Drafted {C : Type 0} (m : Model C) (s : Shape) (cells : List C) (enrolled t v g x : ℕ) (found : List Listed) : Type 0 where
  pub few : length found ≤ x
  pub some_known : length found ≤ enrolled
  pub named : (d : C) → found ≡ map (entry_of m s cells d enrolled t v) (filter (high_everywhere m s cells d t v g) (range_with_len 0 x))
  -- a node that misses may reach past the enrolled keys
  pub none_past : (d : C) (y : ℕ) → enrolled ≤ y → y < x → high_everywhere m s cells d t v g y ≡ false
  pub willing : (d : C) (k y : ℕ) → y < x → Asked m s cells d enrolled t v g k y → Willing m s cells d t v y k
  pub above : (d : C) → Reached m s cells d t v g x (new_levels s.bits x) (s.bits + 1)

module _ {C : Type 0} (m : Model C) (s : Shape) (cells : List C) (enrolled t v g : ℕ) (tiny : s.bits ≤ 10) (room : enrolled ≤ 2 ^ s.bits) where
  pub drafted_none : Drafted m s cells enrolled t v g 0 []
  drafted_none = record {
    few = omega arith;
    some_known = omega arith;
    named = λ d. refl;
    none_past = λ d y from to. absurd (omega arith);
    willing = λ d k y l asked. absurd (omega arith);
    above = λ d k from to. absurd (omega (arith, all_new s.bits tiny));
  }

  -- all enrolled keys are passed
  pub drafted_all : (x : ℕ) (found : ArrayVec Listed) → enrolled ≤ x → Drafted m s cells enrolled t v g x found.items → ListAnswer m s cells enrolled t v g (Ok found)
  drafted_all x found past w = (
    w.some_known,
    λ d.
        let same = kept_skipped (high_everywhere m s cells d t v g) enrolled x past (w.none_past d) in
        record {
          named = w.named d ∙ ap (map (entry_of m s cells d enrolled t v)) same;
          willing = λ k y asked. w.willing d k y (omega (arith, asked.known)) asked;
        },
  )

  module _ (x : ℕ) (found : List Listed) (w : Drafted m s cells enrolled t v g x found) (known : x < enrolled) where
    -- the new levels and those above them
    pub reached_all : (d : C) (k : ℕ) → Reached m s cells d t v g x k (new_levels s.bits x) → Reached m s cells d t v g x k (s.bits + 1)
    reached_all d k new j from to =
        ⊎_elim
        (λ (l : j < new_levels s.bits x). new j from l)
        (λ (l : new_levels s.bits x ≤ j). w.above d j l to)
        (cases_lt j (new_levels s.bits x))

    -- the nodes of x down to level k are known to be willing, and those above level k to reach g
    module _ (k y : ℕ) (level : k ≤ s.bits) (next : y ≡ first_key k (node_of k x + 1)) (own : (d : C) → Willing m s cells d t v x k) (reached : (d : C) → Reached m s cells d t v g x (k + 1) (s.bits + 1)) where
      own_node : (z j : ℕ) → x ≤ z → z < y → k ≤ j → node_of j x ≡ node_of j z
      own_node z j from to up = same_above x z k j up (sym (within_node x z k from (omega arith)))

      next_above : (d : C) → Reached m s cells d t v g y (new_levels s.bits y) (s.bits + 1)
      next_above d j from to =
          let kept = node_kept s.bits x k j y tiny next from (omega arith) in
          subst (λ i. (refusing_cells m s cells d t v j i ≡ 0) × (g ≤ node_high m s cells d t v j i)) (sym kept.1) (reached d j (omega (arith, kept.0)) to)

      willing_down : (d : C) (j : ℕ) → k ≤ j → j ≤ s.bits → Willing m s cells d t v x j
      willing_down d j up top =
          ⊎_elim
          (λ (l : k < j). (reached d j (omega arith) (omega arith)).0)
          (λ (l : j ≤ k). subst (Willing m s cells d t v x) (let e : k ≡ j = omega arith in e) (own d))
          (cases_lt k j)

      -- no level below k is asked of the keys that are passed over
      next_willing : ((d : C) (j : ℕ) → j < k → g ≤ high_at m s cells d t v x k → ⊥) → (d : C) (j z : ℕ) → z < y → Asked m s cells d enrolled t v g j z → Willing m s cells d t v z j
      next_willing shut d j z below asked =
          ⊎_elim
          (λ (l : z < x). w.willing d j z l asked)
          (λ (l : x ≤ z).
          ⊎_elim
          (λ (down : j < k). absurd (shut d j down (subst (λ i. g ≤ node_high m s cells d t v k i) (sym (own_node z k l below (omega arith))) (asked.above k down level))))
          (λ (up : k ≤ j). subst (λ i. refusing_cells m s cells d t v j i ≡ 0) (own_node z j l below up) (willing_down d j up asked.level))
          (cases_lt j k))
          (cases_lt z x)

      -- the node at level k misses: the keys under it are passed over
      pub drafted_missed : ((d : C) → high_at m s cells d t v x k < g) → Drafted m s cells enrolled t v g y found
      drafted_missed low =
          let later = after_above x k in
          let none : (d : C) (z : ℕ) → x ≤ z → z < y → high_everywhere m s cells d t v g z ≡ false =
          λ d z from to. all_fails (λ j. leb g (high_at m s cells d t v z j)) (s.bits + 1) k (omega arith)
          (lt-leb g (high_at m s cells d t v z k) (subst (λ i. node_high m s cells d t v k i < g) (own_node z k from to (omega arith)) (low d))) in
          let same : (d : C) → filter (high_everywhere m s cells d t v g) (range_with_len 0 y) ≡ filter (high_everywhere m s cells d t v g) (range_with_len 0 x) =
          λ d. kept_skipped (high_everywhere m s cells d t v g) x y (omega arith) (none d) in
          record {
            few = omega (arith, w.few);
            some_known = w.some_known;
            named = λ d. w.named d ∙ sym (ap (map (entry_of m s cells d enrolled t v)) (same d));
            none_past = λ d z from to. ⊎_elim (λ (l : z < x). w.none_past d z from l) (λ (l : x ≤ z). none d z l to) (cases_lt z x);
            willing = next_willing (λ d j l h. omega (arith, low d));
            above = next_above;
          }

    -- level 0 is the last to be asked
    at_zero : x + 1 ≡ first_key 0 (node_of 0 x + 1)
    at_zero = omega arith

    own_key : x ≡ node_of 0 x
    own_key = omega arith

    -- the key's own node misses
    pub drafted_unlisted : ((d : C) → Reached m s cells d t v g x 1 (new_levels s.bits x)) → EntryAnswer m s cells enrolled t v g x (Ok None) → Drafted m s cells enrolled t v g (x + 1) found
    drafted_unlisted new missed =
        drafted_missed 0 (x + 1) (omega arith) at_zero
        (λ d. subst (λ i. refusing_cells m s cells d t v 0 i ≡ 0) own_key (missed d).0)
        (λ d. reached_all d 1 (new d))
        (λ d. subst (λ i. node_high m s cells d t v 0 i < g) own_key (missed d).1)

    -- the key's own node reaches g too: the key is listed
    pub drafted_listed : (e : Listed) → ((d : C) → Reached m s cells d t v g x 1 (new_levels s.bits x)) → EntryAnswer m s cells enrolled t v g x (Ok (Some e)) → Drafted m s cells enrolled t v g (x + 1) (found ++ e ∷ [])
    drafted_listed e new got =
        let reached : (d : C) → Reached m s cells d t v g x 1 (s.bits + 1) = λ d. reached_all d 1 (new d) in
        let own : (d : C) → Willing m s cells d t v x 0 = λ d. subst (λ i. refusing_cells m s cells d t v 0 i ≡ 0) own_key (got.2 d).0 in
        let high : (d : C) → g ≤ high_at m s cells d t v x 0 = λ d. subst (λ i. g ≤ node_high m s cells d t v 0 i) own_key (omega (arith, got.1, (got.2 d).2)) in
        let level : (d : C) (j : ℕ) → j < s.bits + 1 → g ≤ high_at m s cells d t v x j =
        λ d j l. ⊎_elim
        (λ (up : 0 < j). (reached d j (omega arith) l).1)
        (λ (zero : j ≤ 0). subst (λ k. g ≤ high_at m s cells d t v x k) (let z : 0 ≡ j = omega arith in z) (high d))
        (cases_lt 0 j) in
        let passes : (d : C) → high_everywhere m s cells d t v g x ≡ true = λ d. all_from (λ j. leb g (high_at m s cells d t v x j)) (s.bits + 1) (λ j l. le-leb g (high_at m s cells d t v x j) (level d j l)) in
        let more : (d : C) → filter (high_everywhere m s cells d t v g) (range_with_len 0 (x + 1)) ≡ filter (high_everywhere m s cells d t v g) (range_with_len 0 x) ++ x ∷ [] = λ d. kept_yes (high_everywhere m s cells d t v g) x (passes d) in
        let entry : (d : C) → e ≡ entry_of m s cells d enrolled t v x = λ d.
        let low_is = (got.2 d).1 ∙ sym (own_piece s.bits x (node_low m s cells d enrolled t v) (omega arith)) in
        let high_is = (got.2 d).2 ∙ sym (own_piece s.bits x (node_high m s cells d t v) (omega arith)) in
        entry_same e x (range_low m s cells d enrolled t v x x) (range_high m s cells d t v x x) got.0 low_is high_is in
        record {
          few = omega (arith, w.few, length_push found e);
          some_known = omega (arith, w.few, length_push found e);
          named = λ d.
              ap (λ xs. xs ++ e ∷ []) (w.named d)
              ∙ ap (λ y. map (entry_of m s cells d enrolled t v) (filter (high_everywhere m s cells d t v g) (range_with_len 0 x)) ++ y ∷ []) (entry d)
              ∙ sym (map_push (entry_of m s cells d enrolled t v) (filter (high_everywhere m s cells d t v g) (range_with_len 0 x)) x)
              ∙ sym (ap (map (entry_of m s cells d enrolled t v)) (more d));
          none_past = λ d z from to. w.none_past d z from (omega arith);
          willing = next_willing 0 (x + 1) (omega arith) at_zero own reached (λ d j l h. omega arith);
          above = next_above 0 (x + 1) (omega arith) at_zero own reached;
        }
