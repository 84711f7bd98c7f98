-- Arrival lists and their live stamps.
use Rattle.std.proofs.Common.{◌≡◌, ℕ, zero, suc, ◌+◌, ◌-◌, ◌≤◌, true, false, cond, leb, List, [], ◌∷◌, ◌++◌, length, take, drop, refl, ap, ◌∙◌, ⊎_elim, arith}
use Rattle.std.proofs.lemmas.Bool.{and_parts, and_from, leb-true, le-leb, cases_Bool}
use Rattle.std.proofs.lemmas.Bool.Decides.{nat_tests}
use Rattle.std.proofs.lemmas.List.Sums.{sum_by-cons, sum_by-append, sum_by-take-drop, count_by-le-length}
use Rattle.window.specs.Stamps.{is_live, live_count, ascends_from, last_or}

pub live_cons : (t v x : ℕ) (xs : List ℕ) → live_count t v (x ∷ xs) ≡ cond (is_live t v x) 1 0 + live_count t v xs
live_cons t v x xs = sum_by-cons (λ s. cond (is_live t v s) 1 0) x xs

pub live_yes : (t v x : ℕ) (xs : List ℕ) → is_live t v x ≡ true → live_count t v (x ∷ xs) ≡ 1 + live_count t v xs
live_yes t v x xs e = live_cons t v x xs ∙ ap (λ b. cond b 1 0 + live_count t v xs) e

pub live_no : (t v x : ℕ) (xs : List ℕ) → is_live t v x ≡ false → live_count t v (x ∷ xs) ≡ 0 + live_count t v xs
live_no t v x xs e = live_cons t v x xs ∙ ap (λ b. cond b 1 0 + live_count t v xs) e

pub live_append : (t v : ℕ) (xs ys : List ℕ) → live_count t v (xs ++ ys) ≡ live_count t v xs + live_count t v ys
live_append t v xs ys = sum_by-append (λ s. cond (is_live t v s) 1 0) xs ys

pub live_split : (t v k : ℕ) (xs : List ℕ) → live_count t v (take k xs) + live_count t v (drop k xs) ≡ live_count t v xs
live_split t v k xs = sum_by-take-drop (λ s. cond (is_live t v s) 1 0) xs k

pub live_le : (t v : ℕ) (xs : List ℕ) → live_count t v xs ≤ length xs
live_le t v xs = count_by-le-length (is_live t v) xs

-- what follows a live stamp, up to t, is live
pub later_live : (t v s x : ℕ) → is_live t v s ≡ true → s ≤ x → x ≤ t → is_live t v x ≡ true
later_live t v s x e h k = grind (arith, nat_tests)

pub still_live : (t v last w s : ℕ) → is_live t v s ≡ true → s ≤ last → last ≤ t → v ≤ w → is_live last w s ≡ true
still_live t v last w s e a b d = grind (arith, nat_tests)

pub le_last : (lo : ℕ) (xs : List ℕ) → ascends_from lo xs ≡ true → lo ≤ last_or lo xs
le_last lo [] h = omega arith
le_last lo (x ∷ xs) h =
    let p = and_parts (leb lo x) (ascends_from x xs) h in
    omega (arith, leb-true lo x p.0, le_last x xs p.1)

pub last_push : (d : ℕ) (xs : List ℕ) (t : ℕ) → last_or d (xs ++ (t ∷ [])) ≡ t
last_push d [] t = refl
last_push d (x ∷ xs) t = last_push x xs t

pub ascends_push : (lo : ℕ) (xs : List ℕ) (t : ℕ) → ascends_from lo xs ≡ true → last_or lo xs ≤ t → ascends_from lo (xs ++ (t ∷ [])) ≡ true
ascends_push lo [] t h k = and_from (leb lo t) true (le-leb lo t k) refl
ascends_push lo (x ∷ xs) t h k =
    let p = and_parts (leb lo x) (ascends_from x xs) h in
    and_from (leb lo x) (ascends_from x (xs ++ (t ∷ []))) p.0 (ascends_push x xs t p.1 k)

pub all_live : (t v lo : ℕ) (xs : List ℕ) → ascends_from lo xs ≡ true → last_or lo xs ≤ t → is_live t v lo ≡ true → live_count t v xs ≡ length xs
all_live t v lo [] h k e = refl
all_live t v lo (x ∷ xs) h k e =
    let p = and_parts (leb lo x) (ascends_from x xs) h in
    let i : lo ≤ x = leb-true lo x p.0 in
    let j : x ≤ t = omega (arith, le_last x xs p.1) in
    let f = later_live t v lo x e i j in
    let ih = all_live t v x xs p.1 k f in
    omega (arith, live_yes t v x xs f, ih)

-- the live stamps are the newest ones
pub old_dead : (t v lo : ℕ) (xs : List ℕ) (k : ℕ) → ascends_from lo xs ≡ true → last_or lo xs ≤ t → live_count t v xs ≤ length xs - k → live_count t v (take k xs) ≡ 0
old_dead t v lo xs zero h k f = refl
old_dead t v lo [] (suc k) h l f = refl
old_dead t v lo (x ∷ xs) (suc k) h l f =
    let p = and_parts (leb lo x) (ascends_from x xs) h in
    let at_live : is_live t v x ≡ true → live_count t v (x ∷ take k xs) ≡ 0 = λ e. omega (arith, live_yes t v x xs e, all_live t v x xs p.1 l e) in
    let at_dead : is_live t v x ≡ false → live_count t v (x ∷ take k xs) ≡ 0 =
    λ e. let g : live_count t v xs ≤ length xs - k = omega (arith, live_no t v x xs e) in
    omega (arith, live_no t v x (take k xs) e, old_dead t v x xs k p.1 l g) in
    ⊎_elim at_live at_dead (cases_Bool (is_live t v x))

-- at a later time, over no longer a span, no more are live
pub live_later : (t v last w lo : ℕ) (xs : List ℕ) → ascends_from lo xs ≡ true → last_or lo xs ≤ last → last ≤ t → v ≤ w → live_count t v xs ≤ live_count last w xs
live_later t v last w lo [] h k a b = omega arith
live_later t v last w lo (x ∷ xs) h k a b =
    let p = and_parts (leb lo x) (ascends_from x xs) h in
    let ih = live_later t v last w x xs p.1 k a b in
    let j : x ≤ last = omega (arith, le_last x xs p.1) in
    let at_live : is_live t v x ≡ true → live_count t v (x ∷ xs) ≤ live_count last w (x ∷ xs) =
    λ e. omega (arith, live_yes t v x xs e, live_yes last w x xs (still_live t v last w x e j a b), ih) in
    let at_dead : is_live t v x ≡ false → live_count t v (x ∷ xs) ≤ live_count last w (x ∷ xs) =
    λ e. omega (arith, live_no t v x xs e, live_cons last w x xs, ih) in
    ⊎_elim at_live at_dead (cases_Bool (is_live t v x))
