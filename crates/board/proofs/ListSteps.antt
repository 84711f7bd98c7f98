-- A list: found, handed over, or refused.
use Rattle.std.proofs.Common.{◌≡◌, ℕ, ◌≤◌, ltb, List, [], ◌∷◌, ◌++◌, map, length, drop, Some, None, Ok, Err, Result, sym, refl, ap, ◌∙◌, subst, arith}
use Rattle.std.proofs.lemmas.Bool.{cond-true, cond-false, lt-ltb, le-ltb}
use Rattle.std.proofs.lemmas.Bool.Decides.{nat_tests}
use Rattle.std.proofs.lemmas.List.{length-map}
use Rattle.arrayvec.specs.ArrayVec.{ArrayVec}
use Rattle.window.specs.Causes.{Admitted, Refused}
use Rattle.window.specs.Meaning.{Model}
use Rattle.window.proofs.Refusals.{admitted_then, refused_first}
use Rattle.sketch.specs.Layout.{shape_of, keys, cell_number}
use Rattle.sketch.specs.declared.faults.CellFault.{CellFault}
use Rattle.listing.specs.declared.Listed.{Listed}
use Rattle.listing.specs.Answers.{ListAnswer}
use Rattle.daybook.specs.Boards.{State, listed}
use Rattle.board.specs.declared.held.Board.{Board as OneBoard}
use Rattle.board.specs.declared.records.Record.{Record}
use Rattle.board.specs.declared.faults.Refusal.{Refusal}
use Rattle.board.specs.declared.faults.Fault.{Fault}
use Rattle.board.specs.declared.faults.Fault.TheVariants.{Board, Cell}
use Rattle.board.specs.Causes.{Cause, label, list_causes}
use Rattle.board.specs.Held.{state_of}
use Rattle.board.specs.Lists.{room_causes, entry, needed, HandedOver, ListOutcome}
use Rattle.board.proofs.Registers.{serials_number}

-- where a list is made, board, cells and register are as they should be
pub list_sized : (b : OneBoard) (cells records g t v : ℕ) → Admitted (list_causes b cells records g t v) → (cells ≡ cell_number (shape_of b.sketch)) × (keys (shape_of b.sketch) ≤ records)
list_sized b cells records g t v a = (grind (arith, nat_tests), grind (arith, nat_tests))

module _ {C : Type 0} (m : Model C) (b : OneBoard) (cells : List C) (records : List Record) (places : List Listed) (g t v : ℕ) where
  abbrev σ : State C
  σ = state_of b cells records

  abbrev causes : List Cause
  causes = list_causes b (length cells) (length records) g t v

  -- an answer by the number enrolled, by the state of the board
  by_state : Admitted causes → (r : Result (ArrayVec Listed) CellFault) → ListAnswer m σ.shape cells b.enrolled t v g r → ListAnswer m σ.shape cells (length σ.register) t v g r
  by_state a r h =
      let sized = list_sized b (length cells) (length records) g t v a in
      let many = serials_number b.enrolled records (omega (arith, b.room, sized.1)) in
      subst (λ n. ListAnswer m σ.shape cells n t v g r) (sym many) h

  -- as many as are needed
  found_many : (found : ArrayVec Listed) (d : C) → found.items ≡ map (entry m σ d t v g) (listed m σ d t v g) → length found.items ≡ needed m σ d t v g
  found_many found d named = ap length named ∙ length-map (listed m σ d t v g) (entry m σ d t v g)

  pub refused_before : (f : Refusal) → Refused causes (label f) → ListOutcome m b cells records places places g t v (Err (Board f))
  refused_before f h = (refl, (λ d. refused_first causes (room_causes (needed m σ d t v g) (length places)) (label f) h), λ d a. let z : ◌≡◌ {A = ℕ} 0 1 = cc in absurd (omega arith))

  pub refused_by_cell : Admitted causes → (f : CellFault) → ListAnswer m σ.shape cells b.enrolled t v g (Err f) → ListOutcome m b cells records places places g t v (Err (Cell f))
  refused_by_cell a f h = (refl, a, by_state a (Err f) h)

  pub refused_room : Admitted causes → (found : ArrayVec Listed) → ListAnswer m σ.shape cells b.enrolled t v g (Ok found) → (shown : List Listed) (f : Refusal) → HandedOver found.items places shown (Err f) → ListOutcome m b cells records places shown g t v (Err (Board f))
  refused_room a found h shown f handed =
      let lists = (by_state a (Ok found) h).1 in (
        handed.1,
        (λ d.
            let many = found_many found d (lists d).named in
            let short = lt-ltb (length places) (needed m σ d t v g) (omega (arith, many, handed.0)) in
            let tells_needed : (15, needed m σ d t v g ∷ []) ≡ label f = ap (λ k. (15, k ∷ [])) (sym many) ∙ ap label (sym handed.2) in
            admitted_then causes (room_causes (needed m σ d t v g) (length places)) a ∙ cond-true (ltb (length places) (needed m σ d t v g)) (Some (15, needed m σ d t v g ∷ [])) None short ∙ ap Some tells_needed),
        λ d _. (lists d).willing,
      )

  pub written : Admitted causes → (found : ArrayVec Listed) → ListAnswer m σ.shape cells b.enrolled t v g (Ok found) → (shown : List Listed) (n : ℕ) → HandedOver found.items places shown (Ok n) → ListOutcome m b cells records places shown g t v (Ok n)
  written a found h shown n handed =
      let lists = (by_state a (Ok found) h).1 in (
        a,
        λ d.
            let many = found_many found d (lists d).named in
            record {
              answer = handed.0 ∙ many;
              written = handed.2 ∙ ap (λ l. found.items ++ drop l places) (sym handed.0) ∙ ap (λ l. l ++ drop n places) (lists d).named;
              room = cond-false (ltb (length places) (needed m σ d t v g)) (Some (15, needed m σ d t v g ∷ [])) None (le-ltb (length places) (needed m σ d t v g) (omega (arith, many, handed.1)));
              willing = (lists d).willing;
            },
      )

-- a refused list, whatever its fault is called
pub by_fault : {C : Type 0} (m : Model C) (b : OneBoard) (cells : List C) (records : List Record) (places shown : List Listed) (g t v : ℕ) (r : Result ℕ Fault) (y f : Fault) → r ≡ Err y → y ≡ f → ListOutcome m b cells records places shown g t v (Err f) → ListOutcome m b cells records places shown g t v r
by_fault m b cells records places shown g t v r y f e same h = subst (ListOutcome m b cells records places shown g t v) (sym (e ∙ ap Err same)) h
