-- Bytes put one after another.
use Rattle.std.proofs.Common.{map, ◌≡◌, ℕ, ◌+◌, ◌-◌, ◌<◌, ◌≤◌, List, [], ◌∷◌, ◌++◌, length, get_or, drop, Some, None, Ok, Err, sym, refl, ap, ◌∙◌, subst, append_assoc, append-nil, arith, length-append}
use Rattle.std.specs.List.{AllByRecursion}
use Rattle.std.proofs.ByRecursion.{All-drop}
use Rattle.std.proofs.lemmas.List.{drop_all, drop_more, drop-map}
use Rattle.arrayvec.specs.ArrayVec.{ArrayVec}
use Rattle.logline.specs.declared.faults.LineFault.{LineFault}
use Rattle.logline.specs.declared.faults.LineFault.TheVariants.{Room, Form}
use Rattle.logline.specs.declared.forms.Name.{Name}
use Rattle.logline.specs.declared.events.Event.{Event}
use Rattle.logline.specs.declared.events.Event.TheVariants.{Open, Enrol, Play, Ask, Range, List as Listing}
use Rattle.logline.specs.Forms.{names, required, shape_of}
use Rattle.logline.specs.Pieces.{led}
use Rattle.logline.specs.Events.{Content, content_shape, Sound, Filled, field_text, field_texts, Said, said, text}
use Rattle.logline.specs.declared.events.Value.{Value}
use Rattle.logline.specs.Steps.{value_content, PutWhen, PutSaid}

-- what an event says has the shapes of its form
Shaped : List Content → List Name → ℕ → Type 0
Shaped [] ns m = m ≡ 0
Shaped (v ∷ vs) [] m = ⊥
Shaped (v ∷ vs) (n ∷ ns) m = (content_shape v ≡ shape_of n) × Shaped vs ns (m - 1)

said_shaped : (e : Event) → Shaped (said e).contents (names (said e).word) (length (required (said e).word))
unfolding Shaped
said_shaped (Open k w f s) = (refl, (refl, (refl, (refl, refl))))
said_shaped (Enrol cab) = (refl, refl)
said_shaped (Play cab t) = (refl, (refl, refl))
said_shaped (Ask cab t None) = (refl, (refl, refl))
said_shaped (Ask cab t (Some v)) = (refl, (refl, (refl, refl)))
said_shaped (Range a b t None) = (refl, (refl, (refl, refl)))
said_shaped (Range a b t (Some v)) = (refl, (refl, (refl, (refl, refl))))
said_shaped (Listing l t None) = (refl, (refl, refl))
said_shaped (Listing l t (Some v)) = (refl, (refl, (refl, refl)))

shaped_short : (vs : List Content) (ns : List Name) (m : ℕ) → Shaped vs ns m → length vs ≤ length ns
unfolding Shaped
shaped_short [] ns m h = omega arith
shaped_short (v ∷ vs) [] m h = absurd h
shaped_short (v ∷ vs) (n ∷ ns) m h = let k = shaped_short vs ns (m - 1) h.1 in omega arith

shaped_filled : (vs : List Content) (ns : List Name) (m : ℕ) → Shaped vs ns m → AllByRecursion Sound vs → Filled vs ns m
unfolding Shaped
shaped_filled [] ns m h s = h
shaped_filled (v ∷ vs) [] m h s = h
shaped_filled (v ∷ vs) (n ∷ ns) m h s = ((h.0, s.0), shaped_filled vs ns (m - 1) h.1 s.1)

filled_sound : (vs : List Content) (ns : List Name) (m : ℕ) → Filled vs ns m → AllByRecursion Sound vs
filled_sound [] ns m f = tt
filled_sound (v ∷ vs) [] m f = absurd f
filled_sound (v ∷ vs) (n ∷ ns) m f = (f.0.1, filled_sound vs ns (m - 1) f.1)

-- the front of a line is put: with what is left it makes up the line, and what is put is sound
pub record Fronts (s : Said) (i : ℕ) (line : List ℕ) : Type 0 where
  pub within : length line ≤ 96
  pub whole : line ++ led (field_texts (drop i s.contents) (drop i (names s.word))) ≡ text s
  pub sound : AllByRecursion Sound (drop i s.contents) → AllByRecursion Sound s.contents

module _ (e : Event) where
  abbrev s : Said
  s = said e

  module _ (i : ℕ) (line : List ℕ) (f : Fronts s i line) where
    module _ (n : Name) (v : Content) (fields : drop i s.contents ≡ v ∷ drop (i + 1) s.contents) (next : drop i (names s.word) ≡ n ∷ drop (i + 1) (names s.word)) where
      abbrev rest : List ℕ
      rest = led (field_texts (drop (i + 1) s.contents) (drop (i + 1) (names s.word)))

      whole_next : line ++ ((32 ∷ field_text n v) ++ rest) ≡ text s
      whole_next = ap (λ l. line ++ l) (ap led (sym (ap (field_texts (v ∷ drop (i + 1) s.contents)) next) ∙ ap (λ l. field_texts l (drop i (names s.word))) (sym fields))) ∙ f.whole

      pub fronts_more : (after : List ℕ) → PutWhen (Sound v) line (32 ∷ field_text n v) after (Ok tt) → Fronts s (i + 1) after
      fronts_more after p = record {
        within = p.2;
        whole = ap (λ l. l ++ rest) p.1 ∙ append_assoc line (32 ∷ field_text n v) rest ∙ whole_next;
        sound = λ h. f.sound (subst (AllByRecursion Sound) (sym fields) (p.0, h));
      }

      pub fronts_stop : (after : List ℕ) (fault : LineFault) → PutWhen (Sound v) line (32 ∷ field_text n v) after (Err fault) → PutSaid s (Err fault)
      fronts_stop after (Room k) p = p
      fronts_stop after (Form q) p = (
        p.0,
        λ can.
            let all = filled_sound s.contents (names s.word) (length (required s.word)) can.filled in
            let here : AllByRecursion Sound (v ∷ drop (i + 1) s.contents) = subst (AllByRecursion Sound) fields (All-drop Sound i s.contents all) in
            omega (arith, can.short, p.1 here.0, ap length whole_next, length-append line ((32 ∷ field_text n v) ++ rest), length-append (32 ∷ field_text n v) rest),
      )

    pub fronts_end : (out : ArrayVec ℕ) → out.items ≡ line → length s.contents ≤ i → PutSaid s (Ok out)
    fronts_end out same end =
        let none : drop i s.contents ≡ [] = drop_all i s.contents end in
        let is : line ≡ text s = sym (append-nil line) ∙ ap (λ l. line ++ led (field_texts l (drop i (names s.word)))) (sym none) ∙ f.whole in
        let sounds = f.sound (subst (AllByRecursion Sound) (sym none) tt) in
        (record { filled = shaped_filled _ _ _ (said_shaped e) sounds; short = omega (arith, f.within, ap length is) }, same ∙ is)

  -- no more values than names
  pub few_contents : length s.contents ≤ length (names s.word)
  few_contents = shaped_short s.contents (names s.word) _ (said_shaped e)

-- the name and the value that are next
pub next_field : (items ns : List Name) (values : List Value) (vs : List Content) (i : ℕ) (n : Name) (v : Value) → items ≡ ns → map value_content values ≡ vs → i < length items → i < length values → ((d : Name) → n ≡ get_or items i d) → ((d : Value) → v ≡ get_or values i d) → (drop i vs ≡ value_content v ∷ drop (i + 1) vs) × (drop i ns ≡ n ∷ drop (i + 1) ns)
next_field items ns values vs i n v e f lt lt' at at' =
    let values_more = drop_more values i v lt' in
    let names_more = drop_more items i n lt in (
      ap (drop i) (sym f) ∙ drop-map value_content i values ∙ ap (map value_content) values_more ∙ (λ k. value_content (sym (at' v) k) ∷ (sym (drop-map value_content (i + 1) values) ∙ ap (drop (i + 1)) f) k),
      ap (drop i) (sym e) ∙ names_more ∙ (λ k. sym (at n) k ∷ drop (i + 1) (e k)),
    )
