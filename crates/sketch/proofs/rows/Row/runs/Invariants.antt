use Rattle.std.proofs.Common.{◌≡◌, ℕ, ◌+◌, ◌*◌, ◌<◌, length, get_or}
use Rattle.sketch.specs.Layout.{run}
use Rattle.sketch.proofs.rows.Row.runs.Given as goal

abbrev pub invariant-loop-word : goal.invariant-loop-word
invariant-loop-word l = record {
  many : length l.runs.items ≡ l.word-index;
  mixed_is : l.mixed ≡ run l.self.sketch.now.words ((l.self.level * l.self.sketch.now.rows + l.self.row) * l.self.sketch.now.bits) l.word-index;
  running : (q : ℕ) → q < l.word-index → get_or l.runs.items q 0 ≡ run l.self.sketch.now.words ((l.self.level * l.self.sketch.now.rows + l.self.row) * l.self.sketch.now.bits) (q + 1);
}
