use Rattle.std.proofs.Common.{◌≡◌, [], length, sym, refl, ap, subst, arith}
use Rattle.sketch.specs.declared.shape.Sketch.{Sketch}
use Rattle.sketch.specs.Layout.{shape_of, cell_number, Sound}
use Rattle.sketch.specs.Laws.{Faithful}
use Rattle.sketch.proofs.Cells.{sound_of}
use Rattle.daybook.specs.Runs.{opened}
use Rattle.board.specs.Serials.{serials_of}
use Rattle.board.specs.Opening.{SketchOf}
use Rattle.board.proofs.Beginning.{fits, sized, same_number, fresh_faithful}
use Rattle.board.proofs.held.Board.open.Goals as goal

pub sketch_of-sketch-requires : goal.sketch_of-sketch-requires
sketch_of-sketch-requires g c = record { fits = fits c.args.asked c.args.words.now (length c.args.cells.now) (length c.args.register.now) c.in_ok-may_open.ensures.tested }

pub returns : goal.returns
returns g c =
    let a = c.args.asked in
    let words = c.args.words.now in
    let admitted = c.in_ok-may_open.ensures.tested in
    let fit = fits a words (length c.args.cells.now) (length c.args.register.now) admitted in
    let made = c.sketch_of-sketch.ensures.made in
    let sketch = c.sketch_of-sketch.result in
    let cells = c.renew.new.cells in
    let records = c.empty.new.register in
    let same = same_number a words sketch made in
    let many : length cells ≡ cell_number (shape_of sketch) = omega (arith, c.renew.auto.cells, (sized a words (length c.args.cells.now) (length c.args.register.now) admitted).0, same) in
    let faithful = fresh_faithful g.C.Counter.model (shape_of sketch) cells a.window a.fineness many made.window made.fineness fit.some_window fit.some_fineness fit.fineness c.renew.ensures.fresh in
    let begun = c.begun.ensures in
    record {
      opened = (
        admitted,
        record {
          answer = refl;
          opened = begun.opened;
          sketch = subst (SketchOf a words) (sym begun.sketch) made;
          enrolled = begun.enrolled;
          clock = begun.clock;
          accepted = begun.accepted;
          fresh_cells = c.renew.ensures.fresh;
          empty_records = c.empty.ensures.empty;
          begins =
              let new : (s : Sketch) → s ≡ sketch → Sound (shape_of s) × Faithful g.C.Counter.model (shape_of s) cells [] =
              λ s e. subst (λ x. Sound (shape_of x) × Faithful g.C.Counter.model (shape_of x) cells []) (sym e) (sound_of sketch, faithful) in
              let held = new c.begun.result.sketch begun.sketch in
              opened (record { sound = held.0; register = ap (λ n. serials_of n records) begun.enrolled; clock = begun.clock; accepted = begun.accepted; cells = held.1 });
        },
      );
    }
