-- The fields of a line, each a part of it.
use Rattle.std.specs.Prelude.{◌≡◌, ℕ, ◌+◌, List, [], ◌∷◌, ◌++◌, map, length, take, drop, Ok, Err, Result}
use Rattle.arrayvec.specs.ArrayVec.{ArrayVec}
use Rattle.logline.specs.declared.forms.Word.{Word}
use Rattle.logline.specs.declared.forms.Name.{Name}
use Rattle.logline.specs.declared.fields.Field.{Field}
use Rattle.logline.specs.declared.fields.Field.TheVariants.{Number, Serial, Letter}
use Rattle.logline.specs.declared.faults.LineFault.{LineFault}
use Rattle.logline.specs.declared.faults.LineFault.TheVariants.{Room, Form}
use Rattle.logline.specs.Forms.{head, names, label}
use Rattle.logline.specs.Events.{Content, number, serial, letter, content_text, saying, Says}
use Rattle.logline.specs.Refusals.{NotOfForm}

-- what a field holds
abbrev pub content_of : Field → Content
content_of (Number place text value) = number value
content_of (Serial place text) = serial text.now
content_of (Letter place text kind) = letter kind

-- the bytes of its value, which it borrows from the line
abbrev pub value_bytes : Field → List ℕ
value_bytes (Number place text value) = text.now
value_bytes (Serial place text) = text.now
value_bytes (Letter place text kind) = text.now

-- the place of its first byte, that of its name
abbrev pub place_of : Field → ℕ
place_of (Number place text value) = place
place_of (Serial place text) = place
place_of (Letter place text kind) = place

-- a field of this name that stands here in the line: its name and its value's bytes are that part of the line
pub record Part (line : List ℕ) (n : Name) (here : ℕ) (f : Field) : Type 0 where
  pub place : place_of f ≡ here
  pub stands : take (length (label n ++ value_bytes f)) (drop here line) ≡ label n ++ value_bytes f
  pub holds : value_bytes f ≡ content_text (content_of f)

-- fields of these names, one after another with one blank between
abbrev pub Parts : List ℕ → List Field → List Name → ℕ → Type 0
Parts line [] ns here = Unit {0}
Parts line (f ∷ fs) [] here = ⊥
Parts line (f ∷ fs) (n ∷ ns) here = Part line n here f × Parts line fs ns (here + length (label n ++ value_bytes f) + 1)

-- the fields of a line after its first, with the word that this one gives: the line says what they hold
pub record FieldsOf (line : List ℕ) (w : Word) (list : List Field) : Type 0 where
  pub says : Says line (saying w (map content_of list))
  pub parts : Parts line list (names w) (length (head w) + 1)

-- what looking for the fields of a line answers
abbrev pub Found : List ℕ → Result (Word × ArrayVec Field) LineFault → Type 0
Found line (Ok r) = FieldsOf line r.0 r.1.items
Found line (Err (Room needed)) = ⊥
Found line (Err (Form place)) = NotOfForm line place
