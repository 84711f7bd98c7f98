-- What each call promises makes it a lawful step.
use Rattle.std.proofs.Common.{◌≡◌, ℕ, Bool, true, false, List, length, is_ok, Ok, Err, Result, sym, refl, ap, ◌∙◌, subst}
use Rattle.window.specs.Meaning.{Model, Keeps}
use Rattle.sketch.specs.declared.faults.CellFault.{CellFault}
use Rattle.sketch.specs.Answers.{RangeAnswer}
use Rattle.daybook.specs.Book.{enrol, play, ask, range, list}
use Rattle.daybook.specs.Boards.{State}
use Rattle.daybook.specs.Runs.{Lawful}
use Rattle.daybook.proofs.Stepping.{step_lawful}
use Rattle.board.specs.declared.held.Board.{Board as OneBoard}
use Rattle.board.specs.declared.records.Record.{Record}
use Rattle.board.specs.declared.faults.Fault.{Fault}
use Rattle.board.specs.declared.faults.Fault.TheVariants.{Board, Cell}
use Rattle.board.specs.Held.{state_of}
use Rattle.board.specs.Outcomes.{EnrolOutcome, PlayOutcome, Estimated}

module _ {C : Type 0} (m : Model C) (keeps : Keeps m) where
  pub play_lawful : (before after : OneBoard) (cells told : List C) (records : List Record) (bytes : List ℕ) (t : ℕ) (r : Result ℕ Fault) → PlayOutcome m before after cells told records bytes t r → Lawful m (state_of before cells records) (play bytes t) (is_ok r) (state_of after told records)
  play_lawful before after cells told records bytes t (Ok n) p = step_lawful m keeps (state_of before cells records) (state_of after told records) (play bytes t) true p.1.step
  play_lawful before after cells told records bytes t (Err (Board f)) p =
      step_lawful m keeps (state_of before cells records) (state_of after told records) (play bytes t) false (ap (λ b. state_of b told records) p.1.0 ∙ ap (λ l. state_of before l records) p.1.1)
  play_lawful before after cells told records bytes t (Err (Cell f)) p =
      step_lawful m keeps (state_of before cells records) (state_of after told records) (play bytes t) false (ap (λ b. state_of b told records) p.1.0 ∙ ap (λ l. state_of before l records) p.1.1)

  pub enrol_lawful : (before after : OneBoard) (cells : List C) (records left : List Record) (bytes : List ℕ) (r : Result ℕ Fault) → EnrolOutcome before after cells records left bytes r → Lawful m (state_of before cells records) (enrol bytes) (is_ok r) (state_of after cells left)
  enrol_lawful before after cells records left bytes (Ok n) p = step_lawful m keeps (state_of before cells records) (state_of after cells left) (enrol bytes) true p.1.step
  enrol_lawful before after cells records left bytes (Err (Board f)) p =
      step_lawful m keeps (state_of before cells records) (state_of after cells left) (enrol bytes) false (ap (λ b. state_of b cells left) p.1.0 ∙ ap (state_of before cells) p.1.1)
  enrol_lawful before after cells records left bytes (Err (Cell f)) p = absurd p.1

  -- a question is a step that changes nothing
  pub range_lawful : (σ : State C) (first last t v : ℕ) (accepted : Bool) → Lawful m σ (range first last t v) accepted σ
  range_lawful σ first last t v accepted = step_lawful m keeps σ σ (range first last t v) accepted refl

  pub ask_lawful : (σ : State C) (bytes : List ℕ) (t v : ℕ) (accepted : Bool) → Lawful m σ (ask bytes t v) accepted σ
  ask_lawful σ bytes t v accepted = step_lawful m keeps σ σ (ask bytes t v) accepted refl

  pub list_lawful : (σ : State C) (g t v : ℕ) (accepted : Bool) → Lawful m σ (list g t v) accepted σ
  list_lawful σ g t v accepted = step_lawful m keeps σ σ (list g t v) accepted refl

-- the sketch's answer, by the state of the board
pub estimated : {C : Type 0} (m : Model C) (σ : State C) (enrolled t v a b : ℕ) → length σ.register ≡ enrolled → (r : Result (ℕ × ℕ) CellFault) → RangeAnswer m σ.shape σ.cells enrolled t v a b r → Estimated m σ t v a b r
estimated m σ enrolled t v a b many (Ok pair) h = subst (λ n. RangeAnswer m σ.shape σ.cells n t v a b (Ok pair)) (sym many) h
estimated m σ enrolled t v a b many (Err f) h = subst (λ n. RangeAnswer m σ.shape σ.cells n t v a b (Err f)) (sym many) h
