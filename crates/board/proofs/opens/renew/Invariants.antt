use Rattle.std.proofs.Common.{ℕ, ◌<◌, get_or}
use Rattle.window.specs.Meaning.{Fresh}
use Rattle.board.proofs.opens.renew.Given as goal

abbrev pub invariant-loop-cell : goal.invariant-loop-cell
invariant-loop-cell g l = (k : ℕ) (d : g.row.C.Denot) → k < l.cell-index → Fresh g.C.Counter.model l.window l.fineness (get_or l.cells k d)
