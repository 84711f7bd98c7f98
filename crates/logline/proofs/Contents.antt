-- Names, words and contents are known by their bytes.
use Rattle.std.proofs.Common.{◌≡◌, ℕ, ◌-◌, ◌^◌, ◌<◌, Bool, true, false, cond, eqb, List, [], ◌∷◌, length, get_or, decimal, sym, refl, ap, ◌∙◌, ⊎_elim, arith, eq-eqb, ne_eqb}
use Rattle.std.specs.List.{AllByRecursion}
use Rattle.std.specs.Str.{bytes_eq}
use Rattle.std.proofs.lemmas.List.{append_cancel_left}
use Rattle.std.proofs.lemmas.Bool.{cases_eq}
use Rattle.std.proofs.ByRecursion.{All-append, All-from_get_or}
use Rattle.std.proofs.lemmas.Str.Parse.{digit_at}
use Rattle.std.proofs.lemmas.Fmt.{decimal_is_IsNumeral, decimal_injective}
use Rattle.logline.specs.declared.forms.Word.{Word}
use Rattle.logline.specs.declared.forms.Word.TheVariants.{Open, Enrol, Play, Ask, Range, List as Listing}
use Rattle.logline.specs.declared.forms.Name.{Name}
use Rattle.logline.specs.declared.forms.Name.TheVariants.{Kind as Kind-name, Window, Fine, Seed, Cab, T, Span, From, To, Least}
use Rattle.logline.specs.declared.forms.Kind.{Kind}
use Rattle.logline.specs.declared.forms.Kind.TheVariants.{Ring, Histogram, Wave}
use Rattle.logline.specs.Forms.{head, label, letter_of}
use Rattle.logline.specs.Pieces.{NoBlank}
use Rattle.logline.specs.Events.{Content, number, serial, letter, content_text, content_shape, Sound, Allowed, Filled, field_text, field_texts}

-- the word whose first field has these bytes
word_by : List ℕ → Word
word_by h = cond (bytes_eq h (head Open)) Open (cond (bytes_eq h (head Enrol)) Enrol (cond (bytes_eq h (head Play)) Play (cond (bytes_eq h (head Ask)) Ask (cond (bytes_eq h (head Range)) Range Listing))))

-- bytes that are tested to be no blank
clear_test : List ℕ → Bool
clear_test [] = true
clear_test (b ∷ bs) = cond (eqb b 32) false (clear_test bs)

-- what is seen of each form by computing: its first field tells its word and has no blank
record FormFacts (w : Word) : Type 0 where
  known : word_by (head w) ≡ w
  clear : clear_test (head w) ≡ true

form_facts : (w : Word) → FormFacts w
unfolding word_by clear_test
form_facts Open = record { known = refl; clear = refl }
form_facts Enrol = record { known = refl; clear = refl }
form_facts Play = record { known = refl; clear = refl }
form_facts Ask = record { known = refl; clear = refl }
form_facts Range = record { known = refl; clear = refl }
form_facts Listing = record { known = refl; clear = refl }

-- a word is known by its first field
pub same_word : (v w : Word) → head v ≡ head w → v ≡ w
same_word v w e = sym (form_facts v).known ∙ ap word_by e ∙ (form_facts w).known

kind_by : ℕ → Kind
kind_by l = cond (eqb l 114) Ring (cond (eqb l 104) Histogram Wave)

kind_back : (k : Kind) → kind_by (letter_of k) ≡ k
unfolding kind_by
kind_back Ring = refl
kind_back Histogram = refl
kind_back Wave = refl

-- a kind is known by its letter
pub same_kind : (j k : Kind) → letter_of j ≡ letter_of k → j ≡ k
same_kind j k e = sym (kind_back j) ∙ ap kind_by e ∙ kind_back k

-- a content is known by its shape and its bytes
pub same_content : (v w : Content) → content_shape v ≡ content_shape w → Sound v → Sound w → content_text v ≡ content_text w → v ≡ w
same_content (number m) (number n) s h k e = ap number (decimal_injective m n (omega arith) (omega arith) e)
same_content (number m) (serial t) s h k e = let z : ◌≡◌ {A = ℕ} 0 1 = cc in absurd (omega arith)
same_content (number m) (letter j) s h k e = let z : ◌≡◌ {A = ℕ} 0 1 = cc in absurd (omega arith)
same_content (serial t) (number n) s h k e = let z : ◌≡◌ {A = ℕ} 0 1 = cc in absurd (omega arith)
same_content (serial t) (serial u) s h k e = ap serial e
same_content (serial t) (letter j) s h k e = let z : ◌≡◌ {A = ℕ} 0 1 = cc in absurd (omega arith)
same_content (letter i) (number n) s h k e = let z : ◌≡◌ {A = ℕ} 0 1 = cc in absurd (omega arith)
same_content (letter i) (serial t) s h k e = let z : ◌≡◌ {A = ℕ} 0 1 = cc in absurd (omega arith)
same_content (letter i) (letter j) s h k e = ap letter (same_kind i j (ap (λ l. get_or l 0 0) e))

-- a field of one name is known by its bytes
pub same_field : (n : Name) (v w : Content) → Allowed n v → Allowed n w → field_text n v ≡ field_text n w → v ≡ w
same_field n v w a b e = same_content v w (a.0 ∙ sym b.0) a.1 b.1 (append_cancel_left (label n) _ _ e)

-- and so are the fields of a line
pub same_fields : (vs ws : List Content) (ns : List Name) (m : ℕ) → Filled vs ns m → Filled ws ns m → field_texts vs ns ≡ field_texts ws ns → vs ≡ ws
same_fields [] [] ns m f g e = refl
same_fields [] (w ∷ ws) [] m f g e = absurd g
same_fields [] (w ∷ ws) (n ∷ ns) m f g e = absurd (omega (arith, ap length e))
same_fields (v ∷ vs) [] [] m f g e = absurd f
same_fields (v ∷ vs) [] (n ∷ ns) m f g e = absurd (omega (arith, ap length e))
same_fields (v ∷ vs) (w ∷ ws) [] m f g e = absurd f
same_fields (v ∷ vs) (w ∷ ws) (n ∷ ns) m f g e =
    let first : field_text n v ≡ field_text n w = cc in
    let rest : field_texts vs ns ≡ field_texts ws ns = cc in
    let here = same_field n v w f.0 g.0 first in
    let there = same_fields vs ws ns (m - 1) f.1 g.1 rest in
    λ i. here i ∷ there i

tested : (bs : List ℕ) → clear_test bs ≡ true → NoBlank bs
unfolding clear_test
tested [] e = tt
tested (b ∷ bs) e =
    ⊎_elim
    (λ is. let no : cond (eqb b 32) false (clear_test bs) ≡ false = ap (λ t. cond t false (clear_test bs)) (eq-eqb b 32 is) in let z : ◌≡◌ {A = ℕ} 0 1 = cc in absurd (omega arith))
    (λ not. (not, tested bs (sym (ap (λ t. cond t false (clear_test bs)) (ne_eqb b 32 not)) ∙ e)))
    (cases_eq b 32)

pub clear_head : (w : Word) → NoBlank (head w)
clear_head w = tested (head w) (form_facts w).clear

clear_label : (n : Name) → NoBlank (label n)
unfolding clear_test
clear_label Kind-name = tested (label Kind-name) refl
clear_label Window = tested (label Window) refl
clear_label Fine = tested (label Fine) refl
clear_label Seed = tested (label Seed) refl
clear_label Cab = tested (label Cab) refl
clear_label T = tested (label T) refl
clear_label Span = tested (label Span) refl
clear_label From = tested (label From) refl
clear_label To = tested (label To) refl
clear_label Least = tested (label Least) refl

clear_decimal : (n : ℕ) → n < 2 ^ 32 → NoBlank (decimal n)
clear_decimal n h = All-from_get_or (λ b. b ≡ 32 → ⊥) (decimal n) 0 (λ i lt e. omega (arith, (digit_at (decimal n) i (decimal_is_IsNumeral n (omega arith)).0.1 lt).0))

clear_letter : (k : Kind) → letter_of k ≡ 32 → ⊥
clear_letter Ring e = omega arith
clear_letter Histogram e = omega arith
clear_letter Wave e = omega arith

clear_content : (v : Content) → Sound v → NoBlank (content_text v)
clear_content (number n) h = clear_decimal n h
clear_content (serial s) h = h
clear_content (letter k) h = (clear_letter k, tt)

pub clear_field : (n : Name) (v : Content) → Sound v → NoBlank (field_text n v)
clear_field n v h = All-append (λ b. b ≡ 32 → ⊥) (label n) (content_text v) (clear_label n) (clear_content v h)

-- the fields of a line have no blank
pub clear_fields : (vs : List Content) (ns : List Name) (m : ℕ) → Filled vs ns m → AllByRecursion NoBlank (field_texts vs ns)
clear_fields [] ns m f = tt
clear_fields (v ∷ vs) [] m f = absurd f
clear_fields (v ∷ vs) (n ∷ ns) m f = (clear_field n v f.0.1, clear_fields vs ns (m - 1) f.1)
