-- Telling a key's cells one row after another, and what the cells then stand for.
use Rattle.std.proofs.Common.{◌≡◌, ℕ, ◌+◌, ◌*◌, ◌<◌, ◌≤◌, List, length, get_or, set, Ok, Err, Result, sym, refl, ap, ◌∙◌, subst, ⊎_elim, arith}
use Rattle.std.proofs.lemmas.Nat.{mul-add-lt}
use Rattle.std.proofs.lemmas.List.{length-set, get_or-set_same, get_or-set_other}
use Rattle.std.proofs.lemmas.Bool.{cases_eq}
use Rattle.window.specs.declared.CounterFault.{CounterFault}
use Rattle.window.specs.Causes.{Admitted}
use Rattle.window.specs.Meaning.{Model}
use Rattle.window.specs.Faults.{take_causes, Arrived, Took}
use Rattle.sketch.specs.declared.faults.CellFault.{CellFault}
use Rattle.sketch.specs.declared.shape.Sketch.{Sketch}
use Rattle.sketch.specs.Layout.{Shape, Sound, shape_of, width, node_of, column, place}
use Rattle.sketch.specs.Answers.{PassedOn}
use Rattle.sketch.specs.Telling.{order, key_place, ToldFrom, TellsFrom, NamesFirst}
use Rattle.sketch.proofs.Cells.{place_same}
use Rattle.sketch.proofs.NodeLaws.{column_below}

-- what a cell that was told answers, passed on
module _ {C : Type 0} (m : Model C) (c new : C) (k r col t : ℕ) where
  pub passed_ok : (answer : Result (Unit {0}) CounterFault) (out : Result (Unit {0}) CellFault) (u : Unit {0}) → PassedOn answer k r col t out → Took m c new t answer → out ≡ Ok u → Admitted (take_causes m c t) × Arrived m c new t
  passed_ok (Ok v) out u passed took e = took
  passed_ok (Err f) out u passed took e = let z : ◌≡◌ {A = ℕ} 0 1 = cc in absurd (omega arith)

module _ (s : Shape) (sound : Sound s) (x : ℕ) where
  -- a level and a row are read off their order
  pub order_same : (k r k' r' : ℕ) → r < s.rows → r' < s.rows → order s k r ≡ order s k' r' → (k ≡ k') × (r ≡ r')
  order_same k r k' r' rb rb' e = place_same s.rows k r k' r' rb rb' e

  -- and off the place of a cell
  pub place_order : (k r k' r' col col' : ℕ) → col < width s → col' < width s → place s k r col ≡ place s k' r' col' → order s k r ≡ order s k' r'
  place_order k r k' r' col col' cb cb' e = (place_same (width s) (order s k r) col (order s k' r') col' cb cb' e).0

  -- the cells of a key in different rows are different
  pub key_places_apart : (k r k' r' : ℕ) → key_place s x k r ≡ key_place s x k' r' → order s k r ≡ order s k' r'
  key_places_apart k r k' r' e = place_order k r k' r' (column s k r (node_of k x)) (column s k' r' (node_of k' x)) (column_below s sound k r (node_of k x)) (column_below s sound k' r' (node_of k' x)) e

  pub order_below : (k r : ℕ) → k ≤ s.bits → r < s.rows → order s k r < (s.bits + 1) * s.rows
  order_below k r kb rb = omega (arith, mul-add-lt k s.rows r (s.bits + 1) (omega arith) rb)

-- what is told from the row after is told from the order after
pub next_row : {C : Type 0} (m : Model C) (q q' : Sketch) (x t k r n : ℕ) (before after : List C) (out : Result (Unit {0}) CellFault)
    → q' ≡ q → order (shape_of q) k r ≡ n → TellsFrom m (shape_of q') x t (order (shape_of q') k r) before after out → TellsFrom m (shape_of q) x t n before after out
next_row m q q' x t k r n before after out same e told =
    subst (λ n. TellsFrom m (shape_of q) x t n before after out) e (subst (λ q. TellsFrom m (shape_of q) x t (order (shape_of q) k r) before after out) same told)

module _ {C : Type 0} (m : Model C) (s : Shape) (sound : Sound s) (x t : ℕ) (before : List C) where
  -- past the last row nothing is told
  pub told_none : (n : ℕ) → (s.bits + 1) * s.rows ≤ n → ToldFrom m s x t n before before
  told_none n h = record { long = refl; told = λ d k r kb rb l. absurd (omega (arith, order_below s sound x k r kb rb)); others = λ d p h. refl }

  module _ (k r n at : ℕ) (kb : k ≤ s.bits) (rb : r < s.rows) (n-is : n ≡ order s k r) (at_is : at ≡ key_place s x k r) (there : at < length before) where
    -- the cell of one row, told and stored back after all later ones were
    pub told_more : (after : List C) (new : C) → ((d : C) → Arrived m (get_or before at d) new t) → ((d : C) → Admitted (take_causes m (get_or before at d) t)) → ToldFrom m s x t (n + 1) before after → ToldFrom m s x t n before (set after at new)
    told_more after new arrived admitted w = record {
      long = length-set after at new ∙ w.long;
      told = λ d k' r' kb' rb' l.
          ⊎_elim
          (λ (e : order s k' r' ≡ n).
          let same = order_same s sound x k' r' k r rb' rb (e ∙ n-is) in
          let p : key_place s x k' r' ≡ at = ap (λ j. key_place s x j r') same.0 ∙ ap (λ j. key_place s x k j) same.1 ∙ sym at_is in
          subst (λ q. Admitted (take_causes m (get_or before q d) t) × Arrived m (get_or before q d) (get_or (set after at new) q d) t) (sym p)
          (admitted d, subst (λ y. Arrived m (get_or before at d) y t) (sym (get_or-set_same after at new d (omega (arith, w.long)))) (arrived d)))
          (λ (e : order s k' r' ≡ n → ⊥).
          let rest = w.told d k' r' kb' rb' (omega arith) in
          let apart : key_place s x k' r' ≡ at → ⊥ = λ q. e (key_places_apart s sound x k' r' k r (q ∙ at_is) ∙ sym n-is) in
          (rest.0, subst (λ y. Arrived m (get_or before (key_place s x k' r') d) y t) (sym (get_or-set_other after at (key_place s x k' r') new d apart)) rest.1))
          (cases_eq (order s k' r') n);
      others = λ d p h.
          get_or-set_other after at p new d (λ e. h k r kb rb (omega arith) (sym (e ∙ at_is)))
          ∙ w.others d p (λ k' r' kb' rb' l. h k' r' kb' rb' (omega arith));
    }

    -- the cell of one row takes the stamp: the first refusal is a later one
    pub later_first : (f : CellFault) → ((d : C) → Admitted (take_causes m (get_or before at d) t)) → NamesFirst m s x t (n + 1) before f → NamesFirst m s x t n before f
    later_first f admitted w = record {
      level = w.level;
      row = w.row;
      column = w.column;
      stamp = w.stamp;
      refused = w.refused;
      from_row = omega (arith, w.from_row);
      earlier_take = λ d k' r' kb' rb' l before-it.
          ⊎_elim
          (λ (e : order s k' r' ≡ n).
          let same = order_same s sound x k' r' k r rb' rb (e ∙ n-is) in
          let p : key_place s x k' r' ≡ at = ap (λ j. key_place s x j r') same.0 ∙ ap (λ j. key_place s x k j) same.1 ∙ sym at_is in
          subst (λ q. Admitted (take_causes m (get_or before q d) t)) (sym p) (admitted d))
          (λ (e : order s k' r' ≡ n → ⊥). w.earlier_take d k' r' kb' rb' (omega arith) before-it)
          (cases_eq (order s k' r') n);
    }
