-- A line says one thing, or is refused at one place.
use Rattle.std.proofs.Common.{◌≡◌, ℕ, ◌+◌, ◌-◌, List, [], ◌∷◌, length, sym, refl, ap, ◌∙◌, subst, inl, inr, arith}
use Rattle.logline.specs.declared.forms.Word.{Word}
use Rattle.logline.specs.declared.forms.Name.{Name}
use Rattle.logline.specs.Forms.{head, names, required}
use Rattle.logline.specs.Pieces.{cut}
use Rattle.logline.specs.Events.{Content, Filled, field_text, field_texts, Said, saying, Says}
use Rattle.logline.specs.Refusals.{Departs, NoForm, NotOfForm}
use Rattle.logline.specs.Reading.{Decided}
use Rattle.logline.proofs.Cutting.{cut_spaced, cut_apart}
use Rattle.logline.proofs.Contents.{same_word, same_fields, clear_head, clear_fields}

-- a line is cut into the fields that it says
pub cut_said : (line : List ℕ) (s : Said) → Says line s → cut line ≡ head s.word ∷ field_texts s.contents (names s.word)
cut_said line s h = ap cut h.whole ∙ cut_spaced (head s.word) _ (clear_head s.word) (clear_fields s.contents (names s.word) (length (required s.word)) h.sayable.filled)

same_saying : (v w : Word) (vs ws : List Content) → v ≡ w → Filled vs (names v) (length (required v)) → Filled ws (names w) (length (required w)) → field_texts vs (names v) ≡ field_texts ws (names w) → saying v vs ≡ saying w ws
same_saying v w vs ws e f g h =
    let f' : Filled vs (names w) (length (required w)) = subst (λ u. Filled vs (names u) (length (required u))) e f in
    let h' : field_texts vs (names w) ≡ field_texts ws (names w) = subst (λ u. field_texts vs (names u) ≡ field_texts ws (names w)) e h in
    let k = same_fields vs ws (names w) (length (required w)) f' g h' in
    λ i. saying (e i) (k i)

one_saying : (line : List ℕ) (s t : Said) → Says line s → Says line t → s ≡ t
one_saying line s t h k =
    let e = sym (cut_said line s h) ∙ cut_said line t k in
    let first : head s.word ≡ head t.word = cc in
    let rest : field_texts s.contents (names s.word) ≡ field_texts t.contents (names t.word) = cc in
    same_saying s.word t.word s.contents t.contents (same_word _ _ first) h.sayable.filled k.sayable.filled rest

same_departure : (ps : List (List ℕ)) (ns : List Name) (m here end p q : ℕ) → Departs ps ns m here end p → Departs ps ns m here end q → p ≡ q
same_departure [] ns m here end p q d e = d.1 ∙ sym e.1
same_departure (b ∷ ps) [] m here end p q d e = d ∙ sym e
same_departure (b ∷ ps) (n ∷ ns) m here end p q (inl d) (inl e) = same_departure ps ns (m - 1) (here + length b + 1) end p q d.1 e.1
same_departure (b ∷ ps) (n ∷ ns) m here end p q (inl d) (inr e) = absurd (e.0 d.0)
same_departure (b ∷ ps) (n ∷ ns) m here end p q (inr d) (inl e) = absurd (d.0 e.0)
same_departure (b ∷ ps) (n ∷ ns) m here end p q (inr d) (inr e) = d.1 ∙ sym e.1

same_no_form : (ps : List (List ℕ)) (end p q : ℕ) → NoForm ps end p → NoForm ps end q → p ≡ q
same_no_form [] end p q d e = absurd d
same_no_form (b ∷ ps) end p q (inl d) (inl e) = d.1 ∙ sym e.1
same_no_form (b ∷ ps) end p q (inl d) (inr e) = absurd (d.0 e.0 e.1)
same_no_form (b ∷ ps) end p q (inr d) (inl e) = absurd (e.0 d.0 d.1)
same_no_form (b ∷ ps) end p q (inr d) (inr e) =
    let w = same_word d.0 e.0 (sym d.1 ∙ e.1) in
    same_departure ps (names e.0) (length (required e.0)) (length b + 1) end p q (subst (λ u. Departs ps (names u) (length (required u)) (length b + 1) end p) w d.2) e.2

one_place : (line : List ℕ) (p q : ℕ) → NotOfForm line p → NotOfForm line q → p ≡ q
one_place line p q (inl d) (inl e) = d.1 ∙ sym e.1
one_place line p q (inl d) (inr e) = absurd (omega (arith, d.0, e.0))
one_place line p q (inr d) (inl e) = absurd (omega (arith, d.0, e.0))
one_place line p q (inr d) (inr e) = same_no_form (cut line) (length line) p q d.1 e.1

-- fields that are as they should be depart nowhere
never_departs : (vs : List Content) (ns : List Name) (m here end p : ℕ) → Filled vs ns m → Departs (field_texts vs ns) ns m here end p → ⊥
never_departs [] ns m here end p f d = omega (arith, d.0, f)
never_departs (v ∷ vs) [] m here end p f d = f
never_departs (v ∷ vs) (n ∷ ns) m here end p f (inl d) = never_departs vs ns (m - 1) (here + length (field_text n v) + 1) end p f.1 d.1
never_departs (v ∷ vs) (n ∷ ns) m here end p f (inr d) = d.0 (v, f.0, refl)

never_no_form : (s : Said) (end p : ℕ) → Filled s.contents (names s.word) (length (required s.word)) → NoForm (head s.word ∷ field_texts s.contents (names s.word)) end p → ⊥
never_no_form s end p f (inl d) = d.0 s.word refl
never_no_form s end p f (inr d) =
    let w = same_word d.0 s.word (sym d.1) in
    never_departs s.contents (names s.word) (length (required s.word)) (length (head s.word) + 1) end p f
    (subst (λ u. Departs (field_texts s.contents (names s.word)) (names u) (length (required u)) (length (head s.word) + 1) end p) w d.2)

never_both : (line : List ℕ) (s : Said) (p : ℕ) → Says line s → NotOfForm line p → ⊥
never_both line s p h (inl d) = omega (arith, d.0, h.sayable.short, ap length h.whole)
never_both line s p h (inr d) = never_no_form s (length line) p h.sayable.filled (subst (λ l. NoForm l (length line) p) (cut_said line s h) d.1)

pub decided : (line : List ℕ) → Decided line
decided line = record { one_saying = one_saying line; one_place = one_place line; never_both = never_both line; cut_apart = cut_apart line }
