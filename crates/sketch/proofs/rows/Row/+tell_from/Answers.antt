use Rattle.std.proofs.Common.{◌≡◌, ◌+◌, ◌<◌, length, Ok, Err, sym, refl, ap, ◌∙◌, subst, arith}
use Rattle.std.proofs.lemmas.List.{get_or_read}
use Rattle.std.proofs.lemmas.Result.{err_from_is_err_and}
use Rattle.window.specs.Causes.{Admitted}
use Rattle.window.specs.Faults.{take_causes, Arrived}
use Rattle.sketch.specs.Layout.{shape_of, place}
use Rattle.sketch.specs.Telling.{order, key_place, ToldFrom, TellsFrom}
use Rattle.sketch.proofs.Cells.{sound_of}
use Rattle.sketch.proofs.TellSteps.{passed_ok, next_row, told_none, told_more, later_first}
use Rattle.sketch.proofs.rows.Row.+tell_from.Goals as goal
use Rattle.sketch.proofs.rows.Row.+tell_from.Goals.{in-Some+in_ok-tell_from, in_default}

pub returns-in_err-tell_from : goal.returns-in_err-tell_from
returns-in_err-tell_from g t c =
    let row = c.args.self.now in
    let q = row.sketch.now in
    let s = shape_of q in
    let m = g.C.Counter.model in
    let cells = c.args.cells.now in
    let at = c.place-place.result in
    let cell = c.index-cells-place.result in
    let there : at < length cells = omega arith in
    let at_is : at ≡ key_place s c.args.key row.level row.row = c.place-place.ensures.at ∙ ap (place s row.level row.row) c.column-column.ensures.mixed in
    let took = passed_ok m cell c.take.new.self row.level row.row c.column-column.result c.args.t c.take.result c.at_cell.result c.in_ok-at_cell.field-0 c.at_cell.ensures.passed c.take.ensures.took c.in_ok-at_cell.was in
    let p = err_from_is_err_and c.from_residual-in_err-tell_from.result c.from_residual-in_err-tell_from.ensures.1 in
    let fault = c.in_err-tell_from.field-0.0 in
    let next = c.in-Some.ensures.next in
    let later = next_row m q c.in-Some.row.sketch.now c.args.key c.args.t c.in-Some.row.level c.in-Some.row.row (order s row.level row.row + 1) cells c.tell_from.new.cells (Err fault) next.0 next.1 c.in_err-tell_from.ensures.tells in
    let first = later_first m s (sound_of q) c.args.key c.args.t cells row.level row.row (order s row.level row.row) at row.level_within row.row_within refl at_is there fault
    (λ d. subst (λ y. Admitted (take_causes m y c.args.t)) (get_or_read cells at cell there c.index-cells-place.is d) took.0) later.1 in
    record { tells = subst (TellsFrom m s c.args.key c.args.t (order s row.level row.row) cells c.tell_from.new.cells) (sym (p.1 ∙ ap Err p.2)) (later.0, first) }

pub returns : goal.returns
returns g t c =
    let row = c.args.self.now in
    let q = row.sketch.now in
    let s = shape_of q in
    let m = g.C.Counter.model in
    let cells = c.args.cells.now in
    let at = c.place-place.result in
    let cell = c.index-cells-place.result in
    let there : at < length cells = omega arith in
    let at_is : at ≡ key_place s c.args.key row.level row.row = c.place-place.ensures.at ∙ ap (place s row.level row.row) c.column-column.ensures.mixed in
    let took = passed_ok m cell c.take.new.self row.level row.row c.column-column.result c.args.t c.take.result c.at_cell.result c.in_ok-at_cell.field-0 c.at_cell.ensures.passed c.take.ensures.took c.in_ok-at_cell.was in
    let read = get_or_read cells at cell there c.index-cells-place.is in
    let rest : ToldFrom m s c.args.key c.args.t (order s row.level row.row + 1) cells c.match-after.cells =
    elim c.match-after.branch [
      | in-Some+in_ok-tell_from w ↦
          let next = w.in-Some.ensures.next in
          subst (ToldFrom m s c.args.key c.args.t (order s row.level row.row + 1) cells) (sym w.cells-is)
          (next_row m q w.in-Some.row.sketch.now c.args.key c.args.t w.in-Some.row.level w.in-Some.row.row (order s row.level row.row + 1) cells w.tell_from.new.cells (Ok w.in_ok-tell_from.field-0) next.0 next.1 w.in_ok-tell_from.ensures.tells)
      | in_default w ↦
          subst (ToldFrom m s c.args.key c.args.t (order s row.level row.row + 1) cells) (sym w.cells-is)
          (told_none m s (sound_of q) c.args.key c.args.t cells (order s row.level row.row + 1) (omega (arith, w.in_default.ensures.next)))
    ] in
    record {
      tells = told_more m s (sound_of q) c.args.key c.args.t cells row.level row.row (order s row.level row.row) at row.level_within row.row_within refl at_is there c.match-after.cells c.take.new.self
          (λ d. subst (λ y. Arrived m y c.take.new.self c.args.t) (read d) took.1) (λ d. subst (λ y. Admitted (take_causes m y c.args.t)) (read d) took.0) rest;
    }
