-- What a reply says, and its text: the one definition of the format.
use Rattle.std.specs.Prelude.{ℕ, cond, List, [], ◌∷◌, map, length, codes, ◌==◌, slice_index, slice_index_or}
use Rattle.std.specs.List.{flat_map}
use Rattle.board.specs.declared.records.Record.{Record}
use Rattle.listing.specs.declared.Listed.{Listed}
use Rattle.reply.specs.declared.replies.Reply.{Reply}
use Rattle.reply.specs.declared.replies.Reply.TheVariants.{Cells, Key, Taken, Pair, List as Lists, No}
use Rattle.reply.specs.Faults as faults
use Rattle.reply.specs.Pieces.{Piece, as_is, in_decimal, line_text}

-- a listed cabinet: its serial, its low and its high
pub record Cabinet : Type 0 where
  pub serial : List ℕ
  pub low : ℕ
  pub high : ℕ

-- what a reply says
pub data Said : Type 0 where
  opened : (cells : ℕ) → Said
  enrolled : (key : ℕ) → Said
  played : (taken : ℕ) → Said
  counted : (low high : ℕ) → Said
  listing : List Cabinet → Said
  refused : (fault : ℕ) (values : List ℕ) → Said

-- what follows the number of a full cell: its level, its row and the stamp
abbrev pub cell_details : List ℕ → List Piece
cell_details values = as_is (codes " level=") ∷ in_decimal (slice_index values 0) ∷ as_is (codes " row=") ∷ in_decimal (slice_index values 1) ∷ as_is (codes " t=") ∷ in_decimal (slice_index values 3) ∷ []

-- what follows the number of a line of no form: the place
abbrev pub place_details : List ℕ → List Piece
place_details values = as_is (codes " place=") ∷ in_decimal (slice_index values 0) ∷ []

-- what follows the number of a refusal: something for 14 and for 16, else nothing
abbrev pub details : ℕ → List ℕ → List Piece
details fault values = cond (fault == 14) (cell_details values) (cond (fault == 16) (place_details values) [])

-- the first line
abbrev pub head : Said → List Piece
head (opened n) = as_is (codes "ok cells=") ∷ in_decimal n ∷ []
head (enrolled n) = as_is (codes "ok key=") ∷ in_decimal n ∷ []
head (played n) = as_is (codes "ok taken=") ∷ in_decimal n ∷ []
head (counted low high) = as_is (codes "ok low=") ∷ in_decimal low ∷ as_is (codes " high=") ∷ in_decimal high ∷ []
head (listing cs) = as_is (codes "ok count=") ∷ in_decimal (length cs) ∷ []
head (refused fault values) = as_is (codes "no=") ∷ in_decimal fault ∷ details fault values

-- the line of a listed cabinet
abbrev pub cabinet_line : Cabinet → List Piece
cabinet_line c = as_is (codes "cab=") ∷ as_is c.serial ∷ as_is (codes " low=") ∷ in_decimal c.low ∷ as_is (codes " high=") ∷ in_decimal c.high ∷ []

-- the lines after the first: one for each listed cabinet
abbrev pub others : Said → List (List Piece)
others (opened n) = []
others (enrolled n) = []
others (played n) = []
others (counted low high) = []
others (listing cs) = map cabinet_line cs
others (refused fault values) = []

-- the text that says it
abbrev pub text : Said → List ℕ
text s = flat_map line_text (head s ∷ others s)

-- the cabinet of a serial, with what is listed of it
abbrev pub cabinet_with : List ℕ → Listed → Cabinet
cabinet_with serial l = record { serial = serial; low = l.low; high = l.high }

-- the cabinet that is listed under a key: its serial is that of its record
abbrev pub cabinet_of : List Record → Listed → Cabinet
cabinet_of register l = cabinet_with (slice_index_or (map (λ r. r.serial) register) l.key []) l

-- what a reply that borrows register and list says
abbrev pub said : Reply → Said
said (Cells n) = opened n
said (Key n) = enrolled n
said (Taken n) = played n
said (Pair low high) = counted low high
said (Lists register listed) = listing (map (cabinet_of register.now) listed.now)
said (No fault) = refused (faults.number fault) (faults.values fault)
