use Rattle.std.proofs.Common.{◌+◌, ◌*◌, ◌≤◌, take}
use Rattle.std.specs.List.{flat_map}
use Rattle.reply.specs.Pieces.{line_text}
use Rattle.reply.specs.Replies.{cabinet_line, cabinet_of}
use Rattle.reply.specs.Steps.{Writes}
use Rattle.reply.proofs.replies.put_cabinets.Given as goal

-- the lines so far are put, and none is longer than it may be
abbrev pub invariant-loop-one : goal.invariant-loop-one
invariant-loop-one l = record {
  writes : Writes l.initial.pen (flat_map (λ one. line_text (cabinet_line (cabinet_of l.register one))) (take l.one-index l.listed)) l.pen;
  room : l.pen.at ≤ 99 + 72 * l.one-index;
}
