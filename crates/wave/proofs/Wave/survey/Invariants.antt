use Rattle.std.proofs.Common.{ℕ, ◌+◌, Some, None, Option}
use Rattle.wave.proofs.Looking.{Walked}
use Rattle.wave.proofs.Wave.survey.Given as goal

abbrev pub invariant-loop-next : goal.invariant-loop-next
invariant-loop-next l = Walked l.self l.t l.v l.next l.seen

-- the ranks that may still come
abbrev to_come : Option (ℕ × ℕ) → ℕ
to_come None = 0
to_come (Some stand) = stand.0 + 1

abbrev pub decreases-loop-next : goal.decreases-loop-next
decreases-loop-next l = to_come l.next
