-- The forms of a line, as data: a form is its word, the fields it has to have and those that may follow.
use Rattle.std.specs.Prelude.{ℕ, List, [], ◌∷◌, ◌++◌, codes}
use Rattle.logline.specs.declared.forms.Word.{Word}
use Rattle.logline.specs.declared.forms.Word.TheVariants.{Open, Enrol, Play, Ask, Range, List as Listing}
use Rattle.logline.specs.declared.forms.Name.{Name}
use Rattle.logline.specs.declared.forms.Name.TheVariants.{Kind as Kind-name, Window, Fine, Seed, Cab, T, Span, From, To, Least}
use Rattle.logline.specs.declared.forms.Shape.{Shape}
use Rattle.logline.specs.declared.forms.Shape.TheVariants.{Number, Serial, Letter}
use Rattle.logline.specs.declared.forms.Kind.{Kind}
use Rattle.logline.specs.declared.forms.Kind.TheVariants.{Ring, Histogram, Wave}

-- the first field of a line
abbrev pub head : Word → List ℕ
head Open = codes "do=open"
head Enrol = codes "do=enrol"
head Play = codes "do=play"
head Ask = codes "do=ask"
head Range = codes "do=range"
head Listing = codes "do=list"

-- the fields that have to follow, in this order
abbrev pub required : Word → List Name
required Open = Kind-name ∷ Window ∷ Fine ∷ Seed ∷ []
required Enrol = Cab ∷ []
required Play = Cab ∷ T ∷ []
required Ask = Cab ∷ T ∷ []
required Range = From ∷ To ∷ T ∷ []
required Listing = Least ∷ T ∷ []

-- the fields that may follow those
abbrev pub optional : Word → List Name
optional Open = []
optional Enrol = []
optional Play = []
optional Ask = Span ∷ []
optional Range = Span ∷ []
optional Listing = Span ∷ []

-- all the fields that a line with this word may have after its first
abbrev pub names : Word → List Name
names w = required w ++ optional w

-- how a field begins: its name and an equals sign
abbrev pub label : Name → List ℕ
label Kind-name = codes "kind="
label Window = codes "window="
label Fine = codes "fine="
label Seed = codes "seed="
label Cab = codes "cab="
label T = codes "t="
label Span = codes "span="
label From = codes "from="
label To = codes "to="
label Least = codes "least="

-- what stands after it
abbrev pub shape_of : Name → Shape
shape_of Kind-name = Letter
shape_of Window = Number
shape_of Fine = Number
shape_of Seed = Number
shape_of Cab = Serial
shape_of T = Number
shape_of Span = Number
shape_of From = Number
shape_of To = Number
shape_of Least = Number

-- the letter of a kind: r, h and w
abbrev pub letter_of : Kind → ℕ
letter_of Ring = 114
letter_of Histogram = 104
letter_of Wave = 119
