use Rattle.std.proofs.Common.{length, arith}
use Rattle.sketch.proofs.Trailing.{few_zeros}
use Rattle.sketch.proofs.places.column_after.Goals as goal

pub bounds-runs-node : goal.bounds-runs-node
bounds-runs-node c = few_zeros 32 c.args.node (length c.args.runs.now) (omega arith) c.requires.node
