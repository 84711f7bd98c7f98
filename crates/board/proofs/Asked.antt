-- What a question answers, by the numbers that it was made of.
use Rattle.std.proofs.Common.{◌≡◌, ℕ, List, subst}
use Rattle.sketch.specs.declared.shape.Sketch.{Sketch}
use Rattle.sketch.specs.Layout.{Shape, shape_of}

-- what holds by the parts of the question holds by what they were made of
pub asked : {C : Type 0} (P : Shape → List C → (enrolled t v : ℕ) → Type 0) {s s' : Sketch} {cells cells' : List C} {n n' t t' v v' : ℕ} → s' ≡ s → cells' ≡ cells → n' ≡ n → t' ≡ t → v' ≡ v → P (shape_of s') cells' n' t' v' → P (shape_of s) cells n t v
asked {C} P {s} {s'} {cells} {cells'} {n} {n'} {t} {t'} {v} {v'} sketch lent enrolled time span h =
    subst (λ x. P (shape_of x) cells n t v) sketch
    (subst (λ x. P (shape_of s') x n t v) lent
    (subst (λ x. P (shape_of s') cells' x t v) enrolled
    (subst (λ x. P (shape_of s') cells' n' x v) time
    (subst (λ x. P (shape_of s') cells' n' t' x) span h))))
