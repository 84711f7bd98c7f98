-- A line is cut at its blanks in one way.
use Rattle.std.proofs.Common.{◌-◌, length-drop, ◌≡◌, ℕ, ◌+◌, ◌<◌, cond, List, [], ◌∷◌, ◌++◌, length, get_or, take, drop, sym, refl, ap, ◌∙◌, subst, ⊎_elim, append-nil, arith, ne_eqb}
use Rattle.std.specs.List.{AllByRecursion}
use Rattle.std.proofs.ByRecursion.{All-from_get_or}
use Rattle.std.proofs.lemmas.List.{get_or-take, length-take-le, take-append-drop, take_all, drop_more}
use Rattle.std.proofs.lemmas.Bool.{cases_eq}
use Rattle.logline.specs.Pieces.{NoBlank, led, spaced, begun_by, cut}

-- a byte that is no blank goes to the first piece
pub cut_other : (b : ℕ) (bs : List ℕ) → (b ≡ 32 → ⊥) → cut (b ∷ bs) ≡ begun_by b (cut bs)
cut_other b bs h = ap (λ t. cond t ([] ∷ cut bs) (begun_by b (cut bs))) (ne_eqb b 32 h)

-- a front without blanks is the beginning of the first piece
pub cut_front : (p rest : List ℕ) (ps : List (List ℕ)) → NoBlank p → cut rest ≡ [] ∷ ps → cut (p ++ rest) ≡ p ∷ ps
cut_front [] rest ps clear e = e
cut_front (b ∷ p) rest ps clear e = cut_other b (p ++ rest) clear.0 ∙ ap (begun_by b) (cut_front p rest ps clear.1 e)

cut_led : (ps : List (List ℕ)) → AllByRecursion NoBlank ps → cut (led ps) ≡ [] ∷ ps
cut_led [] clear = refl
cut_led (p ∷ ps) clear = ap (λ l. [] ∷ l) (cut_front p (led ps) ps clear.0 (cut_led ps clear.1))

-- pieces without blanks are what their line is cut into
pub cut_spaced : (p : List ℕ) (ps : List (List ℕ)) → NoBlank p → AllByRecursion NoBlank ps → cut (spaced (p ∷ ps)) ≡ p ∷ ps
cut_spaced p ps clear rest = cut_front p (led ps) ps clear (cut_led ps rest)

-- pieces without blanks that make up a line
Whole : List ℕ → List (List ℕ) → Type 0
Whole line [] = ⊥
Whole line (p ∷ ps) = (spaced (p ∷ ps) ≡ line) × AllByRecursion NoBlank (p ∷ ps)

grown : (b : ℕ) (line : List ℕ) (ps : List (List ℕ)) → (b ≡ 32 → ⊥) → Whole line ps → Whole (b ∷ line) (begun_by b ps)
unfolding Whole
grown b line [] h w = absurd w
grown b line (p ∷ ps) h w = (ap (λ l. b ∷ l) w.0, ((h, w.1.0), w.1.1))

apart : (b : ℕ) (line : List ℕ) (ps : List (List ℕ)) → b ≡ 32 → Whole line ps → Whole (b ∷ line) ([] ∷ ps)
unfolding Whole
apart b line [] e w = absurd w
apart b line (p ∷ ps) e w = ((λ i. sym e i ∷ w.0 i), (tt, w.1))

cut_makes : (line : List ℕ) → Whole line (cut line)
unfolding Whole
cut_makes [] = (refl, (tt, tt))
cut_makes (b ∷ line) =
    ⊎_elim
    (λ e. subst (λ c. Whole (c ∷ line) (cut (c ∷ line))) (sym e) (apart 32 line (cut line) refl (cut_makes line)))
    (λ h. subst (Whole (b ∷ line)) (sym (cut_other b line h)) (grown b line (cut line) h (cut_makes line)))
    (cases_eq b 32)

made_up : (line : List ℕ) (ps : List (List ℕ)) → Whole line ps → (spaced ps ≡ line) × AllByRecursion NoBlank ps
unfolding Whole
made_up line [] w = absurd w
made_up line (p ∷ ps) w = w

-- the pieces of a line have no blank, and make it up
pub cut_apart : (line : List ℕ) → (spaced (cut line) ≡ line) × AllByRecursion NoBlank (cut line)
cut_apart line = made_up line (cut line) (cut_makes line)

some : (line : List ℕ) (qs : List (List ℕ)) → Whole line qs → (p : List ℕ) × (ps : List (List ℕ)) × (qs ≡ p ∷ ps)
unfolding Whole
some line [] w = absurd w
some line (q ∷ qs) w = (q, qs, refl)

-- a line is cut into one piece or more
pub cut_some : (line : List ℕ) → (p : List ℕ) × (ps : List (List ℕ)) × (cut line ≡ p ∷ ps)
cut_some line = some line (cut line) (cut_makes line)

module _ (bytes : List ℕ) (n : ℕ) (within : n < length bytes) where
  -- the bytes before the first blank
  pub clear_front : ((k : ℕ) → k < n → get_or bytes k 0 ≡ 32 → ⊥) → NoBlank (take n bytes)
  clear_front clear =
      let long = length-take-le n bytes (omega arith) in
      All-from_get_or (λ b. b ≡ 32 → ⊥) (take n bytes) 0 (λ k h e. let lt : k < n = omega arith in clear k lt (sym (get_or-take n bytes k 0 lt) ∙ e))

  -- a line made up of what stands before a blank and behind it
  pub cut_at : get_or bytes n 0 ≡ 32 → bytes ≡ take n bytes ++ 32 ∷ take (length bytes - (n + 1)) (drop (n + 1) bytes)
  cut_at blank =
      let rest = take_all (length bytes - (n + 1)) (drop (n + 1) bytes) (omega (arith, length-drop (n + 1) bytes)) in
      sym (take-append-drop n bytes) ∙ ap (λ l. take n bytes ++ l) (drop_more bytes n 0 within ∙ (λ i. blank i ∷ sym rest i))

-- what follows the first blank is cut by itself
pub cut_first : (bytes p rest : List ℕ) → NoBlank p → bytes ≡ p ++ 32 ∷ rest → cut bytes ≡ p ∷ cut rest
cut_first bytes p rest clear e = ap cut e ∙ cut_front p (32 ∷ rest) (cut rest) clear refl

-- a line without a blank is one piece
pub cut_one : (bytes : List ℕ) → NoBlank bytes → cut bytes ≡ bytes ∷ []
cut_one bytes clear = ap cut (sym (append-nil bytes)) ∙ cut_front bytes [] [] clear refl
