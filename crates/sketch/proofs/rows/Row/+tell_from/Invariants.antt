use Rattle.std.proofs.Common.{◌+◌, ◌-◌, ◌*◌}
use Rattle.sketch.specs.Layout.{shape_of}
use Rattle.sketch.specs.Telling.{order}
use Rattle.sketch.proofs.rows.Row.+tell_from.Given as goal

abbrev pub decreases-tell_from : goal.decreases-tell_from
decreases-tell_from g l = (l.self.now.sketch.now.bits + 1) * l.self.now.sketch.now.rows - order (shape_of l.self.now.sketch.now) l.self.now.level l.self.now.row
