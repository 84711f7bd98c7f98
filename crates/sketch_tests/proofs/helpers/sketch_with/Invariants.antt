-- Each word stays a column.
use Rattle.std.proofs.Common.{◌≡◌, ℕ, ◌^◌, ◌<◌, length, get_or}
use Rattle.sketch_tests.proofs.helpers.sketch_with.Given as goal

abbrev pub invariant-loop-p : goal.invariant-loop-p
invariant-loop-p l = (length l.words ≡ 440) × ((q : ℕ) → get_or l.words q 0 < 2 ^ l.spread)
