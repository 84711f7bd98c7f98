-- An event made from what its fields hold.
use Rattle.std.proofs.Common.{Bor, ◌≡◌, ℕ, zero, suc, ◌+◌, ◌-◌, ◌<◌, List, [], ◌∷◌, map, length, get_or, drop, Some, None, Option, MatchOption, sym, refl, ap, ◌∙◌, subst, arith}
use Rattle.std.proofs.lemmas.List.{drop-map, drop_more}
use Rattle.logline.specs.declared.forms.Name.{Name}
use Rattle.logline.specs.declared.forms.Word.{Word}
use Rattle.logline.specs.declared.forms.Kind.{Kind}
use Rattle.logline.specs.declared.forms.Shape.{Shape}
use Rattle.logline.specs.declared.forms.Shape.TheVariants.{Number, Serial, Letter}
use Rattle.logline.specs.declared.fields.Field.TheVariants.{Number as Numbers, Serial as Serials, Letter as Letters}
use Rattle.logline.specs.declared.fields.Field.{Field}
use Rattle.logline.specs.Forms.{shape_of, names, required}
use Rattle.logline.specs.Events.{Content, content_shape, number, Filled, saying, left_out}
use Rattle.logline.specs.Fields.{content_of}
use Rattle.logline.specs.Steps.{NoneAt, StandsAt}

-- what the field at a place holds stands there
pub stands : (list : List Field) (i : ℕ) (f : Field) → i < length list → f ≡ get_or list i f → StandsAt (map content_of list) i (content_of f)
stands list i f lt is = drop-map content_of i list ∙ ap (map content_of) (drop_more list i f lt) ∙ (λ k. content_of (sym is k) ∷ sym (drop-map content_of (i + 1) list) k)

-- nothing else stands there
pub stands_alone : (s : Shape) (list : List Field) (i : ℕ) (f : Field) → i < length list → f ≡ get_or list i f → (content_shape (content_of f) ≡ s → ⊥) → NoneAt s (map content_of list) i
stands_alone s list i f lt is other u us e shape =
    let first = stands list i f lt is in
    let same : u ≡ content_of f = cc in
    other (ap content_shape (sym same) ∙ shape)

-- a field of another variant has another shape
pub no_number : (f : Field) → ((place : ℕ) (text : Bor (List ℕ)) (value : ℕ) → f ≡ Numbers place text value → ⊥) → content_shape (content_of f) ≡ Number → ⊥
no_number (Numbers place text value) h s = h place text value refl
no_number (Serials place text) h s = cc
no_number (Letters place text kind) h s = cc

pub no_serial : (f : Field) → ((place : ℕ) (text : Bor (List ℕ)) → f ≡ Serials place text → ⊥) → content_shape (content_of f) ≡ Serial → ⊥
no_serial (Numbers place text value) h s = cc
no_serial (Serials place text) h s = h place text refl
no_serial (Letters place text kind) h s = cc

pub no_letter : (f : Field) → ((place : ℕ) (text : Bor (List ℕ)) (kind : Kind) → f ≡ Letters place text kind → ⊥) → content_shape (content_of f) ≡ Letter → ⊥
no_letter (Numbers place text value) h s = cc
no_letter (Serials place text) h s = cc
no_letter (Letters place text kind) h s = h place text kind refl

-- the contents from a place on fill the names from there on
pub filled_drop : (i : ℕ) (vs : List Content) (ns : List Name) (m : ℕ) → Filled vs ns m → Filled (drop i vs) (drop i ns) (m - i)
filled_drop zero vs ns m f = let z : m - 0 ≡ m = omega arith in subst (Filled vs ns) (sym z) f
filled_drop (suc i) [] ns m f = omega (arith, f)
filled_drop (suc i) (v ∷ vs) [] m f = absurd f
filled_drop (suc i) (v ∷ vs) (n ∷ ns) m f = let z : m - 1 - i ≡ m - suc i = omega arith in subst (Filled (drop i vs) (drop i ns)) z (filled_drop i vs ns (m - 1) f.1)

missed_first : (vs us : List Content) (n : Name) (ns : List Name) (m : ℕ) → Filled us (n ∷ ns) m → 0 < m → vs ≡ us → NoneAt (shape_of n) vs 0 → ⊥
missed_first vs [] n ns m f lt e none = omega (arith, f)
missed_first vs (u ∷ us) n ns m f lt e none = none u us e f.0.0

none_left : (vs : List Content) (m : ℕ) → Filled vs [] m → vs ≡ []
none_left [] m f = refl
none_left (v ∷ vs) m f = absurd f

last_left : (vs us : List Content) (i : ℕ) (n : Name) (m : ℕ) (r : Option ℕ) → MatchOption r (NoneAt Number vs i) (λ k. StandsAt vs i (number k)) → shape_of n ≡ Number → drop i vs ≡ us → Filled us (n ∷ []) m → drop i vs ≡ left_out r
last_left vs [] i n m None h s e f = e
last_left vs (u ∷ us) i n m None h s e f = absurd (h u us e (f.0.0 ∙ s))
last_left vs [] i n m (Some k) h s e f = absurd (omega (arith, ap length (sym h ∙ e)))
last_left vs (u ∷ []) i n m (Some k) h s e f =
    let rest : drop (i + 1) vs ≡ [] = cc in
    h ∙ ap (λ l. number k ∷ l) rest
last_left vs (u ∷ w ∷ us) i n m (Some k) h s e f = absurd f.1

-- what the fields of a word hold
module _ (word w : Word) (vs : List Content) (is : word ≡ w) (filled : Filled vs (names word) (length (required word))) (i : ℕ) where
  left : Filled (drop i vs) (drop i (names w)) (length (required w) - i)
  left = filled_drop i vs (names w) (length (required w)) (subst (λ u. Filled vs (names u) (length (required u))) is filled)

  -- a field that has to be there is there
  pub missed : (n : Name) (rest : List Name) → drop i (names w) ≡ n ∷ rest → i < length (required w) → NoneAt (shape_of n) vs i → ⊥
  missed n rest e lt none = missed_first (drop i vs) (drop i vs) n rest (length (required w) - i) (subst (λ l. Filled (drop i vs) l (length (required w) - i)) e left) (omega arith) refl none

  -- nothing follows the last name
  pub ended : drop i (names w) ≡ [] → drop i vs ≡ []
  ended e = none_left (drop i vs) (length (required w) - i) (subst (λ l. Filled (drop i vs) l (length (required w) - i)) e left)

  -- the last field, which may be left out
  pub last : (n : Name) (r : Option ℕ) → drop i (names w) ≡ n ∷ [] → shape_of n ≡ Number → MatchOption r (NoneAt Number vs i) (λ k. StandsAt vs i (number k)) → drop i vs ≡ left_out r
  last n r e s h = last_left vs (drop i vs) i n (length (required w) - i) r h s refl (subst (λ l. Filled (drop i vs) l (length (required w) - i)) e left)

-- a content before others
pub more : (vs us : List Content) (i : ℕ) (v : Content) → StandsAt vs i v → drop (i + 1) vs ≡ us → drop i vs ≡ v ∷ us
more vs us i v h e = h ∙ ap (λ l. v ∷ l) e

pub same_said : {word w : Word} {vs cs : List Content} → word ≡ w → vs ≡ cs → saying w cs ≡ saying word vs
same_said e f = λ k. saying (sym e k) (sym f k)
