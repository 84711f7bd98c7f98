-- Fields taken one after another from what is left of a line.
use Rattle.std.proofs.Common.{◌≡◌, ℕ, ◌+◌, ◌-◌, ◌<◌, ◌≤◌, List, [], ◌∷◌, ◌++◌, map, length, get_or, take, drop, Some, None, Ok, Option, sym, refl, ap, ◌∙◌, subst, inl, append_assoc, append-nil, arith, length-append, Bor}
use Rattle.std.proofs.lemmas.List.{take_at, drop_at, drop-drop, drop_all, drop_more, map_push}
use Rattle.arrayvec.specs.ArrayVec.{ArrayVec}
use Rattle.logline.specs.declared.forms.Word.{Word}
use Rattle.logline.specs.declared.forms.Name.{Name}
use Rattle.logline.specs.declared.fields.Field.{Field}
use Rattle.logline.specs.Forms.{head, names, required, label}
use Rattle.logline.specs.Pieces.{spaced, cut}
use Rattle.logline.specs.Events.{Content, Filled, field_text, field_texts, saying, text, Says}
use Rattle.logline.specs.Refusals.{Departs}
use Rattle.logline.specs.Fields.{content_of, value_bytes, Part, Parts, FieldsOf}
use Rattle.logline.specs.Steps.{rest_bytes, rest_pieces, ReadFrom, rest_place, Ends, TakenFrom}
use Rattle.logline.proofs.Cutting.{cut_some, cut_apart}

-- so far i fields are taken: what is found of the rest is found of the whole
pub record Walk (line : List ℕ) (ps : List (List ℕ)) (ns : List Name) (m here : ℕ) (i : ℕ) (taken : List Field) (rest : Option (Bor (List ℕ))) : Type 0 where
  pub ends : Ends line rest
  pub departs : (q : ℕ) → Departs (rest_pieces rest) (drop i ns) (m - i) (rest_place line rest) (length line) q → Departs ps ns m here (length line) q
  pub fills : (vs : List Content) → Filled vs (drop i ns) (m - i) → rest_pieces rest ≡ field_texts vs (drop i ns) → Filled (map content_of taken ++ vs) ns m × (ps ≡ field_texts (map content_of taken ++ vs) ns)
  pub parts : (fs : List Field) → Parts line fs (drop i ns) (rest_place line rest) → Parts line (taken ++ fs) ns here

-- the same of the fields of a word, taken from what was left of a line at the start
abbrev pub Taking : List ℕ → Option (Bor (List ℕ)) → Word → ℕ → List Field → Option (Bor (List ℕ)) → Type 0
Taking line start w i taken rest = Walk line (rest_pieces start) (names w) (length (required w)) (rest_place line start) i taken rest

-- what is left after a piece is the line's end too, and stands behind the piece and its blank
ends_more : (line bytes piece : List ℕ) (behind : Option (Bor (List ℕ))) → (length bytes ≤ length line) × (drop (length line - length bytes) line ≡ bytes) → bytes ≡ piece ++ rest_bytes behind → Ends line behind × (length line - length bytes + length piece + 1 ≡ rest_place line behind)
ends_more line bytes piece None ends e =
    let long : length bytes ≡ length piece = ap length e ∙ ap length (append-nil piece) in
    (tt, omega (arith, ends.0))
ends_more line bytes piece (Some r) ends e =
    let long : length bytes ≡ length piece + length (32 ∷ r.now) = ap length e ∙ length-append piece (32 ∷ r.now) in
    let far : length line - length r.now ≡ length line - length bytes + (length piece + 1) = omega (arith, ends.0) in
    let behind : drop (length piece + 1) (piece ++ 32 ∷ r.now) ≡ r.now = sym (drop-drop 1 (length piece) (piece ++ 32 ∷ r.now)) ∙ ap (drop 1) (drop_at piece (32 ∷ r.now) (length piece) refl) in
    ((omega (arith, ends.0), ap (λ k. drop k line) far ∙ sym (drop-drop (length piece + 1) (length line - length bytes) line) ∙ ap (drop (length piece + 1)) (ends.1 ∙ e) ∙ behind), omega (arith, ends.0))

-- a field that was read stands where the rest stood
part_here : (line bytes piece : List ℕ) (n : Name) (f : Field) (behind : List ℕ) → drop (length line - length bytes) line ≡ bytes → bytes ≡ piece ++ behind → ReadFrom n (length line - length bytes) piece f → Part line n (length line - length bytes) f
part_here line bytes piece n f behind ends e r =
    record {
      place = r.place;
      stands = ap (take (length (label n ++ value_bytes f))) (ends ∙ e ∙ ap (λ l. l ++ behind) r.whole) ∙ take_at (label n ++ value_bytes f) behind _ refl;
      holds = r.holds;
    }

module _ {line : List ℕ} {ps : List (List ℕ)} {ns : List Name} {m here i : ℕ} {taken : List Field} where
  module _ (bytes : Bor (List ℕ)) (w : Walk line ps ns m here i taken (Some bytes)) where
    pub walk_more : (n : Name) (piece : List ℕ) (behind : Option (Bor (List ℕ))) (f : Field) → drop i ns ≡ n ∷ drop (i + 1) ns → cut bytes.now ≡ piece ∷ rest_pieces behind → bytes.now ≡ piece ++ rest_bytes behind → ReadFrom n (length line - length bytes.now) piece f → Walk line ps ns m here (i + 1) (taken ++ f ∷ []) behind
    walk_more n piece behind f names cuts whole r =
        let v = content_of f in
        let is : piece ≡ field_text n v = r.whole ∙ ap (λ l. label n ++ l) r.holds in
        let less : m - i - 1 ≡ m - (i + 1) = omega arith in
        let next = ends_more line bytes.now piece behind w.ends whole in
        let long : length piece ≡ length (label n ++ value_bytes f) = ap length r.whole in
        record {
          ends = next.0;
          departs = λ q d.
              w.departs q (subst (λ l. Departs l (drop i ns) (m - i) (length line - length bytes.now) (length line) q) (sym cuts)
              (subst (λ l. Departs (piece ∷ rest_pieces behind) l (m - i) (length line - length bytes.now) (length line) q) (sym names)
              (inl ((v, r.allowed, is), subst (λ k. Departs (rest_pieces behind) (drop (i + 1) ns) k (length line - length bytes.now + length piece + 1) (length line) q) (sym less) (subst (λ k. Departs (rest_pieces behind) (drop (i + 1) ns) (m - (i + 1)) k (length line) q) (sym next.1) d)))));
          fills = λ vs f' e.
              let whole_again : map content_of (taken ++ f ∷ []) ++ vs ≡ map content_of taken ++ (v ∷ vs) = ap (λ l. l ++ vs) (map_push content_of taken f) ∙ append_assoc (map content_of taken) (v ∷ []) vs in
              let old = w.fills (v ∷ vs) (subst (λ l. Filled (v ∷ vs) l (m - i)) (sym names) (r.allowed, subst (Filled vs (drop (i + 1) ns)) (sym less) f'))
              (cuts ∙ (λ j. is j ∷ e j) ∙ ap (field_texts (v ∷ vs)) (sym names)) in
              (subst (λ l. Filled l ns m) (sym whole_again) old.0, old.1 ∙ ap (λ l. field_texts l ns) (sym whole_again));
          parts = λ fs h.
              subst (λ l. Parts line l ns here) (sym (append_assoc taken (f ∷ []) fs))
              (w.parts (f ∷ fs) (subst (λ l. Parts line (f ∷ fs) l (length line - length bytes.now)) (sym names)
              (part_here line bytes.now piece n f (rest_bytes behind) w.ends.1 whole r, subst (Parts line fs (drop (i + 1) ns)) (sym next.1 ∙ ap (λ k. length line - length bytes.now + k + 1) long) h)));
        }

    -- more follows than there are names
    pub walk_surplus : length ns ≤ i → Departs ps ns m here (length line) (length line - length bytes.now)
    walk_surplus end =
        let place = length line - length bytes.now in
        let some = cut_some bytes.now in
        w.departs place (subst (λ l. Departs l (drop i ns) (m - i) place (length line) place) (sym some.2)
        (subst (λ l. Departs (some.0 ∷ some.1) l (m - i) place (length line) place) (sym (drop_all i ns end)) refl))

  module _ (w : Walk line ps ns m here i taken None) where
    -- the line ends, and the fields are all there
    pub walk_filled : m ≤ i → Filled (map content_of taken) ns m × (ps ≡ field_texts (map content_of taken) ns)
    walk_filled le = subst (λ l. Filled l ns m × (ps ≡ field_texts l ns)) (append-nil (map content_of taken)) (w.fills [] (omega arith) refl)

    pub walk_parts : Parts line taken ns here
    walk_parts = subst (λ l. Parts line l ns here) (append-nil taken) (w.parts [] tt)

-- the next name, where names are left
pub next_name : (items ns : List Name) (i j : ℕ) (d : Name) → items ≡ ns → i ≡ j → j < length items → drop i ns ≡ get_or items j d ∷ drop (i + 1) ns
next_name items ns i j d e same lt =
    subst (λ k. drop k ns ≡ get_or items j d ∷ drop (k + 1) ns) (sym same)
    (subst (λ l. drop j l ≡ get_or items j d ∷ drop (j + 1) l) e (drop_more items j d lt))

-- a line whose first piece gives the word and whose other pieces are its fields
module _ (line first : List ℕ) (rest : Option (Bor (List ℕ))) (w : Word) (whole : line ≡ first ++ rest_bytes rest) (pieces : cut line ≡ first ∷ rest_pieces rest) (given : first ≡ head w) (short : length line ≤ 96) where
  pub line_place : rest_place line rest ≡ length (head w) + 1
  line_place =
      let none : length line - length line ≡ 0 = omega arith in
      sym (ends_more line line first rest (omega arith, ap (λ k. drop k line) none) whole).1 ∙ omega (arith, ap length given)

  pub line_says : (vs : List Content) → Filled vs (names w) (length (required w)) → rest_pieces rest ≡ field_texts vs (names w) → Says line (saying w vs)
  line_says vs f e =
      let is : line ≡ text (saying w vs) = sym (cut_apart line).0 ∙ ap spaced (pieces ∙ (λ i. given i ∷ e i)) in
      record { whole = is; sayable = record { filled = f; short = omega (arith, ap length is) } }

  pub line_found : (v : ArrayVec Field) → TakenFrom line rest w (Ok v) → FieldsOf line w v.items
  line_found v t = record { says = line_says (map content_of v.items) t.0 t.1; parts = subst (Parts line v.items (names w)) line_place t.2 }
