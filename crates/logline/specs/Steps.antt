-- Words for the steps inside: contracts of the crate's own functions cite them, those of its public ones do not.
use Rattle.std.specs.Prelude.{◌≡◌, ℕ, ◌+◌, ◌-◌, ◌*◌, ◌^◌, ◌<◌, ◌≤◌, List, [], ◌∷◌, ◌++◌, map, length, drop, Some, None, Ok, Err, decimal, Option, Result, ◌≢◌}
use Rattle.std.specs.Borrow.{Bor}
use Rattle.std.specs.Int.{IsInRange}
use Rattle.arrayvec.specs.ArrayVec.{ArrayVec}
use Rattle.logline.specs.declared.forms.Word.{Word}
use Rattle.logline.specs.declared.forms.Name.{Name}
use Rattle.logline.specs.declared.forms.Shape.{Shape}
use Rattle.logline.specs.declared.fields.Field.{Field}
use Rattle.logline.specs.declared.faults.LineFault.{LineFault}
use Rattle.logline.specs.declared.faults.LineFault.TheVariants.{Room, Form}
use Rattle.logline.specs.declared.events.Value.{Value}
use Rattle.logline.specs.declared.events.Value.TheVariants as value
use Rattle.logline.specs.Forms.{required, names, label}
use Rattle.logline.specs.Pieces.{cut}
use Rattle.logline.specs.Events.{Content, number, serial, letter, content_text, content_shape, Allowed, Filled, field_texts, Said, text, Sayable}
use Rattle.logline.specs.Refusals.{Departs}
use Rattle.logline.specs.Fields.{content_of, value_bytes, place_of, Parts}

-- a number followed by one more digit, where the byte is a digit and the longer number is below 2 ^ 32
abbrev pub Extends : ℕ → ℕ → Option ℕ → Type 0
Extends n byte None = IsInRange 48 57 byte → n * 10 + (byte - 48) < 2 ^ 32 → ⊥
Extends n byte (Some m) = IsInRange 48 57 byte × (m ≡ n * 10 + (byte - 48)) × (m < 2 ^ 32)

-- the number that bytes write, or none where they are the text of no number below 2 ^ 32
abbrev pub NumberOf : List ℕ → Option ℕ → Type 0
NumberOf bs None = (n : ℕ) → n < 2 ^ 32 → bs ≢ decimal n
NumberOf bs (Some n) = (bs ≡ decimal n) × (n < 2 ^ 32)

-- what is left of a line after a piece: its bytes with the blank before them, and its pieces
abbrev pub rest_bytes : Option (Bor (List ℕ)) → List ℕ
rest_bytes None = []
rest_bytes (Some r) = 32 ∷ r.now

abbrev pub rest_pieces : Option (Bor (List ℕ)) → List (List ℕ)
rest_pieces None = []
rest_pieces (Some r) = cut r.now

-- a piece read as a field of this name
pub record ReadFrom (n : Name) (here : ℕ) (piece : List ℕ) (f : Field) : Type 0 where
  pub place : place_of f ≡ here
  pub whole : piece ≡ label n ++ value_bytes f
  pub holds : value_bytes f ≡ content_text (content_of f)
  pub allowed : Allowed n (content_of f)

-- the place of what is left of a line: where nothing is left, it is behind the blank that is not there
abbrev pub rest_place : List ℕ → Option (Bor (List ℕ)) → ℕ
rest_place line None = length line + 1
rest_place line (Some r) = length line - length r.now

-- what is left of a line is its end
abbrev pub Ends : List ℕ → Option (Bor (List ℕ)) → Type 0
Ends line None = Unit {0}
Ends line (Some r) = (length r.now ≤ length line) × (drop (length line - length r.now) line ≡ r.now)

-- fields taken from what was left of a line, or the place where it departs from the form
abbrev pub TakenFrom : List ℕ → Option (Bor (List ℕ)) → Word → Result (ArrayVec Field) LineFault → Type 0
TakenFrom line rest w (Ok v) = Filled (map content_of v.items) (names w) (length (required w)) × (rest_pieces rest ≡ field_texts (map content_of v.items) (names w)) × Parts line v.items (names w) (rest_place line rest)
TakenFrom line rest w (Err (Room needed)) = ⊥
TakenFrom line rest w (Err (Form place)) = Departs (rest_pieces rest) (names w) (length (required w)) (rest_place line rest) (length line) place

-- what one field of an event holds
abbrev pub value_content : Value → Content
value_content (value.Number n) = number n
value_content (value.Serial s) = serial s.now
value_content (value.Letter k) = letter k

-- no content of this shape stands at a place
abbrev pub NoneAt : Shape → List Content → ℕ → Type 0
NoneAt shape vs i = (u : Content) (us : List Content) → drop i vs ≡ u ∷ us → content_shape u ≢ shape

-- a content stands at a place
abbrev pub StandsAt : List Content → ℕ → Content → Type 0
StandsAt vs i v = drop i vs ≡ v ∷ drop (i + 1) vs

-- bytes that may be put behind those of a line, which has room for 96; or they may not, or find no room
abbrev pub PutWhen : (may : Type 0) (was bytes after : List ℕ) → Result (Unit {0}) LineFault → Type 0
PutWhen may was bytes after (Ok done) = may × (after ≡ was ++ bytes) × (length after ≤ 96)
PutWhen may was bytes after (Err (Room needed)) = ⊥
PutWhen may was bytes after (Err (Form place)) = (place ≡ 96) × (may → 96 < length was + length bytes)

-- what putting into a draft that is lent comes to: that draft, or the refusal
abbrev pub drafted : ArrayVec ℕ → Result (Unit {0}) LineFault → Result (ArrayVec ℕ) LineFault
drafted line (Ok done) = Ok line
drafted line (Err f) = Err f

-- the text of what is said, or it cannot be said in one line
abbrev pub PutSaid : Said → Result (ArrayVec ℕ) LineFault → Type 0
PutSaid s (Ok line) = Sayable s × (line.items ≡ text s)
PutSaid s (Err (Room needed)) = ⊥
PutSaid s (Err (Form place)) = (place ≡ 96) × (Sayable s → ⊥)
