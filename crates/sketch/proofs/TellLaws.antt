-- Cells that were all told stand for the plays with the new one at their end.
use Rattle.std.proofs.Common.{◌≡◌, ℕ, ◌<◌, ◌≤◌, Bool, cond, eqb, List, [], ◌∷◌, ◌++◌, map, get_or, Ok, Err, filter, Result, sym, ap, ◌∙◌, subst, subst₂, ⊎_elim, append-nil, arith}
use Rattle.std.proofs.lemmas.List.Elements.{filter-append}
use Rattle.std.proofs.lemmas.List.{map-append}
use Rattle.std.proofs.lemmas.Bool.{cases_eq, eq-eqb, ne_eqb}
use Rattle.window.specs.Meaning.{Model}
use Rattle.window.specs.Faults.{Arrived}
use Rattle.sketch.specs.declared.faults.CellFault.{CellFault}
use Rattle.sketch.specs.Layout.{Shape, Sound, width, node_of, column, place}
use Rattle.sketch.specs.Plays.{KeyedPlay, stamps_of}
use Rattle.sketch.specs.Nodes.{cell_at}
use Rattle.sketch.specs.Laws.{Cell, Faithful}
use Rattle.sketch.specs.Telling.{order, key_place, ToldFrom, TellsFrom, TellsFaithfully}
use Rattle.sketch.proofs.Cells.{place_same}
use Rattle.sketch.proofs.NodeLaws.{column_below}
use Rattle.sketch.proofs.TellSteps.{order_same}

module _ (s : Shape) (plays : List KeyedPlay) (x t k r col : ℕ) where
  abbrev one : KeyedPlay
  one = record { key = x; stamp = t }

  abbrev here : KeyedPlay → Bool
  here p = eqb (column s k r (node_of k p.key)) col

  -- the stamps of a column, with those of one play more
  stamps_push : stamps_of s (plays ++ one ∷ []) k r col ≡ stamps_of s plays k r col ++ map (λ p. p.stamp) (cond (here one) (one ∷ []) [])
  stamps_push = ap (map (λ p. p.stamp)) (filter-append here plays (one ∷ [])) ∙ map-append (λ p. p.stamp) (filter here plays) (filter here (one ∷ []))

  stamps_more : column s k r (node_of k x) ≡ col → stamps_of s (plays ++ one ∷ []) k r col ≡ stamps_of s plays k r col ++ t ∷ []
  stamps_more e = stamps_push ∙ ap (λ b. stamps_of s plays k r col ++ map (λ p. p.stamp) (cond b (one ∷ []) [])) (eq-eqb (column s k r (node_of k x)) col e)

  stamps_same : (column s k r (node_of k x) ≡ col → ⊥) → stamps_of s (plays ++ one ∷ []) k r col ≡ stamps_of s plays k r col
  stamps_same ne = stamps_push ∙ ap (λ b. stamps_of s plays k r col ++ map (λ p. p.stamp) (cond b (one ∷ []) [])) (ne_eqb (column s k r (node_of k x)) col ne) ∙ append-nil (stamps_of s plays k r col)

module _ {C : Type 0} (m : Model C) (s : Shape) (sound : Sound s) (x t : ℕ) (before after : List C) where
  -- a cell that took the stamp
  cell_more : (c new : C) (stamps : List ℕ) → Cell m s c stamps → Arrived m c new t → Cell m s new (stamps ++ t ∷ [])
  cell_more c new stamps was a = record { stands = a.grown stamps was.stands; window = a.settings.window ∙ was.window; fineness = a.settings.fineness ∙ was.fineness }

  pub told_faithful : ToldFrom m s x t 0 before after → (plays : List KeyedPlay) → Faithful m s before plays → Faithful m s after (plays ++ (record { key = x; stamp = t }) ∷ [])
  told_faithful w plays faithful d k r col kb rb cb =
      ⊎_elim
      (λ (e : column s k r (node_of k x) ≡ col).
      let at : key_place s x k r ≡ place s k r col = ap (place s k r) e in
      let told : Arrived m (cell_at s before d k r col) (cell_at s after d k r col) t = subst (λ p. Arrived m (get_or before p d) (get_or after p d) t) at (w.told d k r kb rb (omega arith)).1 in
      subst (Cell m s (cell_at s after d k r col)) (sym (stamps_more s plays x t k r col e)) (cell_more (cell_at s before d k r col) (cell_at s after d k r col) (stamps_of s plays k r col) (faithful d k r col kb rb cb) told))
      (λ (ne : column s k r (node_of k x) ≡ col → ⊥).
      let apart : (k' r' : ℕ) → k' ≤ s.bits → r' < s.rows → 0 ≤ order s k' r' → key_place s x k' r' ≡ place s k r col → ⊥ =
      λ k' r' kb' rb' l q.
      let same = place_same (width s) (order s k' r') (column s k' r' (node_of k' x)) (order s k r) col (column_below s sound k' r' (node_of k' x)) cb q in
      let rows = order_same s sound x k' r' k r rb' rb same.0 in
      ne (sym (ap (λ j. column s j r' (node_of j x)) rows.0 ∙ ap (λ j. column s k j (node_of k x)) rows.1) ∙ same.1) in
      let left : cell_at s after d k r col ≡ cell_at s before d k r col = w.others d (place s k r col) apart in
      subst₂ (Cell m s) (sym left) (sym (stamps_same s plays x t k r col ne)) (faithful d k r col kb rb cb))
      (cases_eq (column s k r (node_of k x)) col)

  pub tells_faithful : (r : Result (Unit {0}) CellFault) → TellsFrom m s x t 0 before after r → TellsFaithfully m s x t before after r
  tells_faithful (Ok u) w = told_faithful w
  tells_faithful (Err f) w = w.0
