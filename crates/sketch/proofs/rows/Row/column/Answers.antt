use Rattle.std.proofs.Common.{◌≡◌, ℕ, ◌+◌, ◌*◌, arith}
use Rattle.sketch.specs.Layout.{shape_of}
use Rattle.sketch.proofs.Cells.{sound_of}
use Rattle.sketch.proofs.NodeLaws.{column_below}
use Rattle.sketch.proofs.Words.{mixed_more_yes, mixed_more_no}
use Rattle.sketch.proofs.rows.Row.column.Goals as goal
use Rattle.sketch.proofs.rows.Row.column.Goals.{then-node-b-eq1, else-node-b-eq1}

pub loop-b-preserved : goal.loop-b-preserved
loop-b-preserved c =
    let s = c.args.self.now.sketch.now in
    let p : ℕ = (c.args.self.now.level * s.rows + c.args.self.now.row) * s.bits in
    let own = c.words-word-items.ensures.own c.loop-b.b (omega arith) in
    elim c.if-node-b-eq1.branch [
      | then-node-b-eq1 w ↦ let e = mixed_more_yes s.words p c.loop-b.b c.args.node w.if-node-b-eq1.true in cc
      | else-node-b-eq1 w ↦ let e = mixed_more_no s.words p c.loop-b.b c.args.node w.if-node-b-eq1.false in cc
    ]

pub returns-clause-within : goal.returns-clause-within
returns-clause-within c =
    let row = c.args.self.now in
    let s = row.sketch.now in
    let all : c.loop-b.b ≡ s.bits = omega arith in
    let mixed = rw all at c.loop-b.invariant in
    omega (arith, column_below (shape_of s) (sound_of s) row.level row.row c.args.node)
