-- What an event says, and the line that says it.
use Rattle.std.specs.Prelude.{◌≡◌, ℕ, ◌-◌, ◌^◌, ◌<◌, ◌≤◌, List, [], ◌∷◌, ◌++◌, length, Some, None, decimal, Option}
use Rattle.logline.specs.declared.forms.Word.{Word}
use Rattle.logline.specs.declared.forms.Word.TheVariants as word
use Rattle.logline.specs.declared.forms.Name.{Name}
use Rattle.logline.specs.declared.forms.Shape.{Shape}
use Rattle.logline.specs.declared.forms.Shape.TheVariants.{Number, Serial, Letter}
use Rattle.logline.specs.declared.forms.Kind.{Kind}
use Rattle.logline.specs.declared.events.Event.{Event}
use Rattle.logline.specs.declared.events.Event.TheVariants.{Open, Enrol, Play, Ask, Range, List as Listing}
use Rattle.logline.specs.Forms.{head, required, names, label, shape_of, letter_of}
use Rattle.logline.specs.Pieces.{NoBlank, spaced}

-- what a field holds
pub data Content : Type 0 where
  number : ℕ → Content
  serial : List ℕ → Content
  letter : Kind → Content

-- its bytes
abbrev pub content_text : Content → List ℕ
content_text (number n) = decimal n
content_text (serial s) = s
content_text (letter k) = letter_of k ∷ []

-- its shape
abbrev pub content_shape : Content → Shape
content_shape (number n) = Number
content_shape (serial s) = Serial
content_shape (letter k) = Letter

-- a number is below 2 ^ 32, and a serial has no blank
abbrev pub Sound : Content → Type 0
Sound (number n) = n < 2 ^ 32
Sound (serial s) = NoBlank s
Sound (letter k) = Unit {0}

-- what a field of this name may hold
abbrev pub Allowed : Name → Content → Type 0
Allowed n v = (content_shape v ≡ shape_of n) × Sound v

-- the contents of fields with these names, of which the first m have to be there
abbrev pub Filled : List Content → List Name → ℕ → Type 0
Filled [] ns m = m ≡ 0
Filled (v ∷ vs) [] m = ⊥
Filled (v ∷ vs) (n ∷ ns) m = Allowed n v × Filled vs ns (m - 1)

-- the bytes of a field
abbrev pub field_text : Name → Content → List ℕ
field_text n v = label n ++ content_text v

-- the bytes of each field, as far as the contents go
abbrev pub field_texts : List Content → List Name → List (List ℕ)
field_texts [] ns = []
field_texts (v ∷ vs) [] = []
field_texts (v ∷ vs) (n ∷ ns) = field_text n v ∷ field_texts vs ns

-- what a line says: its word, and what its fields hold
pub record Said : Type 0 where
  pub word : Word
  pub contents : List Content

-- the line that says it
abbrev pub text : Said → List ℕ
text s = spaced (head s.word ∷ field_texts s.contents (names s.word))

-- it can be said in one line: each field holds what it may, none is missing, and the line has at most 96 bytes
pub record Sayable (s : Said) : Type 0 where
  pub filled : Filled s.contents (names s.word) (length (required s.word))
  pub short : length (text s) ≤ 96

-- the line is the text of what is said
pub record Says (line : List ℕ) (s : Said) : Type 0 where
  pub whole : line ≡ text s
  pub sayable : Sayable s

-- a last field that may be left out
abbrev pub left_out : Option ℕ → List Content
left_out None = []
left_out (Some n) = number n ∷ []

-- a word with the contents of its fields
abbrev pub saying : Word → List Content → Said
saying w vs = record { word = w; contents = vs }

-- what an event says, field by field
abbrev pub said : Event → Said
said (Open kind window fine seed) = saying word.Open (letter kind ∷ number window ∷ number fine ∷ number seed ∷ [])
said (Enrol cab) = saying word.Enrol (serial cab.now ∷ [])
said (Play cab t) = saying word.Play (serial cab.now ∷ number t ∷ [])
said (Ask cab t span) = saying word.Ask (serial cab.now ∷ number t ∷ left_out span)
said (Range from to t span) = saying word.Range (number from ∷ number to ∷ number t ∷ left_out span)
said (Listing least t span) = saying word.List (number least ∷ number t ∷ left_out span)
