-- Words for the steps inside: contracts of the crate's own functions cite them, those of its public ones do not.
use Rattle.std.specs.Prelude.{◌≡◌, ℕ, ◌+◌, ◌<◌, ◌≤◌, List, [], ◌∷◌, ◌++◌, length, take, drop}
use Rattle.reply.specs.declared.pieces.Pen.{Pen}
use Rattle.reply.specs.declared.pieces.Piece.{Piece as Held}
use Rattle.reply.specs.declared.pieces.Piece.TheVariants.{Bytes, Number}
use Rattle.reply.specs.Pieces.{Piece, as_is, in_decimal, line_text}

-- what a piece that borrows its bytes stands for
abbrev pub piece_of : Held → Piece
piece_of (Bytes text) = as_is text.now
piece_of (Number n) = in_decimal n

-- the most bytes that a piece takes: a number has at most 20 digits
abbrev pub piece_room : Piece → ℕ
piece_room (as_is bs) = length bs
piece_room (in_decimal n) = 20

-- the most bytes that pieces take, one after another
abbrev pub pieces_room : List Piece → ℕ
pieces_room [] = 0
pieces_room (p ∷ ps) = piece_room p + pieces_room ps

-- the most bytes that a line of pieces takes
abbrev pub line_room : List Piece → ℕ
line_room ps = pieces_room ps + 1

-- bytes put at a place among those that the places held; where they do not fit, only the place after them is told
pub record Puts (was : List ℕ) (at : ℕ) (text after : List ℕ) (end : ℕ) : Type 0 where
  pub behind : end ≡ at + length text
  pub put : end ≤ length was → after ≡ take at was ++ (text ++ drop end was)

-- places that are too few are left as they were
abbrev pub Unfilled : (was after : List ℕ) → ℕ → Type 0
Unfilled was after end = length was < end → after ≡ was

-- a pen that has put a text, over the same places
pub record Writes (was : Pen) (text : List ℕ) (after : Pen) : Type 0 where
  pub same : after.out.ghost_name ≡ was.out.ghost_name
  pub long : length after.out.now ≡ length was.out.now
  pub put : Puts was.out.now was.at text after.out.now after.at

-- a pen that has put a line of pieces, within the room for it
pub record WritesLine (was : Pen) (ps : List Piece) (after : Pen) : Type 0 where
  pub writes : Writes was (line_text ps) after
  pub within : after.at ≤ was.at + line_room ps
