use Rattle.std.proofs.Common.{◌≡◌, ◌+◌, ◌*◌}
use Rattle.sketch.specs.Layout.{mixed}
use Rattle.sketch.proofs.rows.Row.column.Given as goal

abbrev pub invariant-loop-b : goal.invariant-loop-b
invariant-loop-b l = l.mixed ≡ mixed l.self.sketch.now.words ((l.self.level * l.self.sketch.now.rows + l.self.row) * l.self.sketch.now.bits) l.b l.node
