use Rattle.std.proofs.Common.{Decides, ◌≡◌, ℕ, eqb, List, [], ◌∷◌, Option, Some, None, MatchOption, Bool, true, false, cond, refl, sym, ◌∙◌, subst, tests, rules}
use Rattle.std.specs.List.{find, AllByRecursion}
use Rattle.std.specs.Cmp.Lexicographic.{pointwise}
use Rattle.std.proofs.lemmas.Slice.Eq.{slice_eq-Decides}
use Rattle.std.proofs.lemmas.Bool.Decides.{Decides-eqb}
use Rattle.std.proofs.lemmas.Iterator.{YieldsList-from_slice}
use Rattle.std.proofs.lemmas.Iterator.Search.{find_from_yields_List}
use Rattle.logline.specs.Forms.{head}
use Rattle.logline.specs.declared.forms.Word.{Word}
use Rattle.logline.specs.declared.forms.Word.TheVariants.{Open, Enrol, Play, Ask, Range, List as Listing}
use Rattle.logline.proofs.forms.Word.read.Goals as goal

abbrev test : List ℕ → Word → Bool
test field w = pointwise eqb (head w) field

-- what looking for a word among others answers
Tells : List ℕ → List Word → Option Word → Type 0
Tells field ws r = MatchOption r (AllByRecursion (λ w. field ≡ head w → ⊥) ws) (λ w. field ≡ head w)

tells_more : (field : List ℕ) (w : Word) (ws : List Word) (b : Bool) → Decides b (head w ≡ field) → Tells field ws (find (test field) ws) → Tells field (w ∷ ws) (cond b (Some w) (find (test field) ws))
unfolding Tells
tells_more field w ws true d rest = let is : head w ≡ field = d.0 refl in sym is
tells_more field w ws false d rest = more (find (test field) ws) rest where
  more : (r : Option Word) → MatchOption r (AllByRecursion (λ v. field ≡ head v → ⊥) ws) (λ v. field ≡ head v) → MatchOption r (AllByRecursion (λ v. field ≡ head v → ⊥) (w ∷ ws)) (λ v. field ≡ head v)
  more None h = ((λ e. let no = d.1 (sym e) in cc), h)
  more (Some v) h = h

tells : (field : List ℕ) (ws : List Word) → Tells field ws (find (test field) ws)
unfolding Tells
tells field [] = tt
tells field (w ∷ ws) = tells_more field w ws (test field w) (slice_eq-Decides Decides-eqb (head w) field _ refl) (tells field ws)

-- every word is among them
every : (field : List ℕ) (r : Option Word) → Tells field (Open ∷ Enrol ∷ Play ∷ Ask ∷ Range ∷ Listing ∷ []) r → MatchOption r ((w : Word) → field ≡ head w → ⊥) (λ w. field ≡ head w)
unfolding Tells
every field None h = elim [ Open ↦ h.0 | Enrol ↦ h.1.0 | Play ↦ h.1.1.0 | Ask ↦ h.1.1.1.0 | Range ↦ h.1.1.1.1.0 | Listing ↦ h.1.1.1.1.1.0 ]
every field (Some w) h = h

pub returns : goal.returns
returns c =
    let field = c.args.field.now in
    let words = Open ∷ Enrol ∷ Play ∷ Ask ∷ Range ∷ Listing ∷ [] in
    let e = find_from_yields_List (test field) _ _ c.find.result c.find.ensures.ran (YieldsList-from_slice words (search rules)) (λ x b q k. search (rules, tests)) in
    record { found = every field c.copied.result (subst (Tells field words) (sym (c.copied.ensures ∙ e)) (tells field words)) }
