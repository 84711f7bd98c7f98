use Rattle.std.proofs.Common.{◌+◌, ◌<◌, ◌≤◌, ℕ, List, [], ◌∷◌, map, length, get_or, drop, sym, ap, ◌∙◌, subst, arith}
use Rattle.std.specs.List.{flat_map}
use Rattle.std.proofs.lemmas.List.{take_all, drop_more}
use Rattle.reply.specs.declared.pieces.Piece.{Piece}
use Rattle.reply.specs.Pieces.{piece_text}
use Rattle.reply.specs.Steps.{piece_of, piece_room, pieces_room, Writes}
use Rattle.reply.proofs.Putting.{writes_more, writes_next, joined_map}
use Rattle.reply.proofs.pieces.Pen.put_line.Goals as goal

abbrev text_of : Piece → List ℕ
text_of p = piece_text (piece_of p)

-- the room for what is left is that for the next piece and that for the others
room_more : (ps : List Piece) (i : ℕ) (d : Piece) (at after most : ℕ) → i < length ps → at + pieces_room (map piece_of (drop i ps)) ≤ most → after ≤ at + piece_room (piece_of (get_or ps i d)) → after + pieces_room (map piece_of (drop (i + 1) ps)) ≤ most
room_more ps i d at after most lt left h = omega (arith, ap (λ l. pieces_room (map piece_of l)) (drop_more ps i d lt))

pub loop-piece-preserved : goal.loop-piece-preserved
loop-piece-preserved c =
    let ps = c.args.pieces.now in
    let i = c.loop-piece.piece-index in
    record {
      writes = writes_next text_of ps i _ c.loop-piece-test.true c.args.self.now c.loop-piece.self c.put_piece.new.self c.loop-piece.invariant.writes c.put_piece.ensures.put;
      room = room_more ps i _ c.loop-piece.self.at c.put_piece.new.self.at _ c.loop-piece-test.true c.loop-piece.invariant.room c.put_piece.ensures.within;
    }

pub returns : goal.returns
returns c =
    let ps = c.args.pieces.now in
    let all = subst (λ l. Writes c.args.self.now l c.loop-piece.self) (ap (flat_map text_of) (take_all c.loop-piece.piece-index ps c.loop-piece-test.false) ∙ sym (joined_map piece_text piece_of ps)) c.loop-piece.invariant.writes in
    record {
      line = record {
        writes = writes_more c.args.self.now c.loop-piece.self c.put.new.self (flat_map piece_text (map piece_of ps)) (10 ∷ []) all c.put.ensures.put;
        within = omega (arith, c.put.ensures.put.put.behind, c.loop-piece.invariant.room);
      };
    }
