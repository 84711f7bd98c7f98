use Rattle.std.proofs.Common.{ℕ, ◌+◌, ◌*◌, ◌≤◌, List, ◌++◌, map, take}
use Rattle.histogram.specs.Buckets.{Bucket, bucket}
use Rattle.histogram.specs.Readings.{Tells}
use Rattle.histogram.proofs.tally.Tally.read.Given as goal

abbrev pub invariant-loop-stamp : goal.invariant-loop-stamp
invariant-loop-stamp l =
    ((last : ℕ) (front : List Bucket) → Tells l.t l.v last front l.initial.tally → Tells l.t l.v last (front ++ map (bucket l.size) (take l.stamp-index l.stamps)) l.tally)
    × (l.tally.high ≤ l.tally.sum) × (l.tally.sum ≤ l.initial.tally.sum + l.stamp-index * l.size)
