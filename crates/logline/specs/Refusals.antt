-- Where a line departs from every form.
use Rattle.std.specs.Prelude.{◌≡◌, ℕ, ◌+◌, ◌-◌, ◌<◌, ◌≤◌, ◌⊎◌, List, [], ◌∷◌, length, ◌≢◌}
use Rattle.logline.specs.declared.forms.Word.{Word}
use Rattle.logline.specs.declared.forms.Name.{Name}
use Rattle.logline.specs.Forms.{head, required, names}
use Rattle.logline.specs.Pieces.{cut}
use Rattle.logline.specs.Events.{Content, Allowed, field_text}

-- the piece is a field of this name, and holds what such a field may
abbrev pub IsField : Name → List ℕ → Type 0
IsField n p = (v : Content) × Allowed n v × (p ≡ field_text n v)

-- pieces, the first of which stands at a place, against names, of which the first m have to be there:
-- a field is missing, and the place is the line's end; or a piece is surplus or not its field, and the place is its first byte
abbrev pub Departs : List (List ℕ) → List Name → (m here end place : ℕ) → Type 0
Departs [] ns m here end place = (0 < m) × (place ≡ end)
Departs (p ∷ ps) [] m here end place = place ≡ here
Departs (p ∷ ps) (n ∷ ns) m here end place = (IsField n p × Departs ps ns (m - 1) (here + length p + 1) end place) ⊎ ((IsField n p → ⊥) × (place ≡ here))

-- the first piece gives no word, at place 0; or it gives one, and the others depart from the fields of that word
abbrev pub NoForm : List (List ℕ) → (end place : ℕ) → Type 0
NoForm [] end place = ⊥
NoForm (p ∷ ps) end place = (((w : Word) → p ≢ head w) × (place ≡ 0)) ⊎ ((w : Word) × (p ≡ head w) × Departs ps (names w) (length (required w)) (length p + 1) end place)

-- the line is not of any form, at this place
abbrev pub NotOfForm : List ℕ → ℕ → Type 0
NotOfForm line place = ((96 < length line) × (place ≡ 96)) ⊎ ((length line ≤ 96) × NoForm (cut line) (length line) place)
