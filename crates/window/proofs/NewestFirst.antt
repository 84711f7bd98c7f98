-- Arrivals with the newest first: what is live is a front of them.
use Rattle.std.proofs.Common.{◌≡◌, ℕ, zero, suc, ◌≤◌, true, false, leb, List, [], ◌∷◌, ◌++◌, reverse, drop, sym, refl, ap, ◌∙◌, subst, ⊎_elim, arith}
use Rattle.std.proofs.lemmas.List.{reverse-append}
use Rattle.std.proofs.lemmas.Bool.{and_parts, leb-true, cases_Bool}
use Rattle.std.proofs.lemmas.Bool.Decides.{nat_tests}
use Rattle.window.specs.Stamps.{is_live, live_count, ascends_from, last_or}
use Rattle.window.proofs.Arrivals.{live_cons, live_yes, live_no, live_append, still_live}

-- no stamp is above the one before it, nor above top, and none is below lo
abbrev pub Down : ℕ → ℕ → List ℕ → Type 0
Down top lo [] = lo ≤ top
Down top lo (y ∷ ys) = (y ≤ top) × Down y lo ys

down_low : (top lo low : ℕ) (ys : List ℕ) → low ≤ lo → Down top lo ys → Down top low ys
down_low top lo low [] h d = omega arith
down_low top lo low (y ∷ ys) h d = (d.0, down_low y lo low ys h d.1)

down_push : (top lo x : ℕ) (ys : List ℕ) → x ≤ lo → Down top lo ys → Down top x (ys ++ (x ∷ []))
down_push top lo x [] h d = (omega arith, omega arith)
down_push top lo x (y ∷ ys) h d = (d.0, down_push y lo x ys h d.1)

reverse_cons : (x : ℕ) (xs : List ℕ) → reverse (x ∷ xs) ≡ reverse xs ++ (x ∷ [])
reverse_cons x xs = reverse-append (x ∷ []) xs

pub down_reverse : (lo : ℕ) (xs : List ℕ) → ascends_from lo xs ≡ true → Down (last_or lo xs) lo (reverse xs)
down_reverse lo [] h = omega arith
down_reverse lo (x ∷ xs) h =
    let p = and_parts (leb lo x) (ascends_from x xs) h in
    subst (Down (last_or x xs) lo) (sym (reverse_cons x xs))
    (down_low (last_or x xs) x lo (reverse xs ++ (x ∷ [])) (leb-true lo x p.0) (down_push (last_or x xs) x x (reverse xs) (omega arith) (down_reverse x xs p.1)))

pub live_reverse : (t v : ℕ) (xs : List ℕ) → live_count t v (reverse xs) ≡ live_count t v xs
live_reverse t v [] = refl
live_reverse t v (x ∷ xs) =
    ap (live_count t v) (reverse_cons x xs) ∙ live_append t v (reverse xs) (x ∷ []) ∙ omega (arith, live_reverse t v xs, live_append t v (x ∷ []) xs)

pub down_raise : (top up lo : ℕ) (ys : List ℕ) → top ≤ up → Down top lo ys → Down up lo ys
down_raise top up lo [] h d = omega arith
down_raise top up lo (y ∷ ys) h d = (omega (arith, d.0), d.1)

pub down_drop : (top lo n : ℕ) (ys : List ℕ) → Down top lo ys → Down top lo (drop n ys)
down_drop top lo zero ys d = d
down_drop top lo (suc n) [] d = d
down_drop top lo (suc n) (y ∷ ys) d = down_drop top lo n ys (down_raise y top lo ys d.0 d.1)

-- what is before a dead stamp is dead
pub older_dead : (t v s x : ℕ) → is_live t v s ≡ false → x ≤ s → s ≤ t → is_live t v x ≡ false
older_dead t v s x e h k = grind (arith, nat_tests)

pub down_dead : (t v top lo : ℕ) (ys : List ℕ) → top ≤ t → is_live t v top ≡ false → Down top lo ys → live_count t v ys ≡ 0
down_dead t v top lo [] h e d = refl
down_dead t v top lo (y ∷ ys) h e d =
    let f = older_dead t v top y e d.0 h in
    live_no t v y ys f ∙ omega (arith, down_dead t v y lo ys (omega (arith, d.0)) f d.1)

-- what is dead stays dead
pub stays_dead : (t v last w lo : ℕ) (ys : List ℕ) → last ≤ t → v ≤ w → Down last lo ys → live_count last w ys ≡ 0 → live_count t v ys ≡ 0
stays_dead t v last w lo [] a b d z = refl
stays_dead t v last w lo (y ∷ ys) a b d z =
    let rest : live_count last w ys ≡ 0 = omega (arith, live_cons last w y ys) in
    let ih = stays_dead t v last w lo ys a b (down_raise y last lo ys d.0 d.1) rest in
    ⊎_elim
    (λ e. absurd (omega (arith, live_yes last w y ys (still_live t v last w y e d.0 a b))))
    (λ e. live_no t v y ys e ∙ omega (arith, ih))
    (cases_Bool (is_live t v y))
