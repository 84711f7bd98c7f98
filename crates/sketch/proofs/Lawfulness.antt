-- Where the cells stand for the plays, what is answered holds.
use Rattle.std.proofs.Common.{◌≡◌, ℕ, ◌<◌, ◌≤◌, List, [], ◌∷◌, length, Ok, Err, Result, sym, subst, subst₂, arith}
use Rattle.window.specs.Causes.{Refused}
use Rattle.window.specs.Meaning.{Model, Keeps, Permitted}
use Rattle.window.specs.Faults.{number, count_causes}
use Rattle.window.proofs.Estimates.{admitted_question}
use Rattle.sketch.specs.declared.faults.CellFault.{CellFault}
use Rattle.sketch.specs.Layout.{Shape, Sound}
use Rattle.sketch.specs.Plays.{KeyedPlay}
use Rattle.sketch.specs.Nodes.{cell_at, cell_of}
use Rattle.sketch.specs.Answers.{NodeAnswer, RangeAnswer, NamesRefusing}
use Rattle.sketch.specs.Laws.{Faithful, Heard, NodeHolds, RangeHolds, Lawful}
use Rattle.sketch.proofs.NodeLaws.{asked, node_holds}
use Rattle.sketch.proofs.RangeLaws.{range_holds}

pub some_cell : {C : Type 0} (cells : List C) → 0 < length cells → C
some_cell [] h = absurd (omega arith)
some_cell (c ∷ cells) h = c

module _ {C : Type 0} (m : Model C) (keeps : Keeps m) (s : Shape) (sound : Sound s) (cells : List C) (some : 0 < length cells) (enrolled t v : ℕ) where
  -- no cell refuses a permitted question
  pub none_refuses : (plays : List KeyedPlay) (clock : ℕ) → Faithful m s cells plays → Heard s enrolled clock plays → Permitted clock s.window t v → (k i : ℕ) → k ≤ s.bits → (f : CellFault) → NamesRefusing m s cells t v k i f → ⊥
  none_refuses plays clock faithful heard permitted k i kb f names =
      let d : C = some_cell cells some in
      let r : ℕ = f.row in
      let own = asked m keeps s sound cells d enrolled clock plays faithful heard t v permitted k i r kb names.row in
      let admitted = admitted_question (m.last (cell_of s cells d k i r)) (m.window (cell_of s cells d k i r)) t v own in
      let refused : Refused (count_causes m (cell_of s cells d k i r) t v) (number f.fault) = subst (λ n. Refused (count_causes m (cell_at s cells d k r n) t v) (number f.fault)) names.column (names.refused d) in
      let z : ◌≡◌ {A = ℕ} 0 1 = cc in
      omega arith

  pub node_lawful : (k i : ℕ) → k ≤ s.bits → (r : Result (ℕ × ℕ) CellFault) → NodeAnswer m s cells enrolled t v k i r → Lawful m s cells enrolled t v (λ plays. NodeHolds s enrolled plays t v k i) r
  node_lawful k i kb (Ok pair) answered plays clock faithful heard permitted =
      let d : C = some_cell cells some in
      let is = answered d in
      subst₂ (NodeHolds s enrolled plays t v k i) (sym is.1) (sym is.2) (node_holds m keeps s sound cells d enrolled clock plays faithful heard t v permitted k i kb)
  node_lawful k i kb (Err f) names plays clock faithful heard permitted = none_refuses plays clock faithful heard permitted k i kb f names

  pub range_lawful : (a b : ℕ) (r : Result (ℕ × ℕ) CellFault) → RangeAnswer m s cells enrolled t v a b r → Lawful m s cells enrolled t v (λ plays. RangeHolds s enrolled plays t v a b) r
  range_lawful a b (Ok pair) answered plays clock faithful heard permitted =
      let d : C = some_cell cells some in
      let is = answered d in
      subst₂ (RangeHolds s enrolled plays t v a b) (sym is.1) (sym is.2) (range_holds m keeps s sound cells d enrolled clock plays faithful heard t v permitted a b)
  range_lawful a b (Err f) named plays clock faithful heard permitted = none_refuses plays clock faithful heard permitted f.level named.1.0 named.0 f named.1.2
