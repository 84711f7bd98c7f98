use Rattle.std.proofs.Common.{◌+◌, ◌≤◌, map, take, drop}
use Rattle.std.specs.List.{flat_map}
use Rattle.reply.specs.Pieces.{piece_text}
use Rattle.reply.specs.Steps.{piece_of, pieces_room, Writes}
use Rattle.reply.proofs.pieces.Pen.put_line.Given as goal

-- the pieces so far are put, and there is room for the others
abbrev pub invariant-loop-piece : goal.invariant-loop-piece
invariant-loop-piece l = record {
  writes : Writes l.initial.self (flat_map (λ p. piece_text (piece_of p)) (take l.piece-index l.pieces)) l.self;
  room : l.self.at + pieces_room (map piece_of (drop l.piece-index l.pieces)) ≤ l.initial.self.at + pieces_room (map piece_of l.pieces);
}
