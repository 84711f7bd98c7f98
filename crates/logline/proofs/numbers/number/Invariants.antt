use Rattle.std.proofs.Common.{◌^◌, ◌<◌, drop}
use Rattle.std.proofs.str.Numerals.{SoFar}
use Rattle.logline.proofs.numbers.number.Given as goal

-- the bytes so far are digits, and the number is the one that they write
abbrev pub invariant-loop-byte : goal.invariant-loop-byte
invariant-loop-byte l = SoFar 10 l.text (drop l.byte-index l.text) l.number × (l.number < 2 ^ 32)
