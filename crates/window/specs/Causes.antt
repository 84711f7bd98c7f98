-- Causes of refusal, tested in a fixed order.
use Rattle.std.specs.Prelude.{◌≡◌, Bool, cond, List, [], ◌∷◌, Some, None, Option}

-- the label of the first cause in a list that applies
abbrev pub first_cause : {X : Type 0} → List (X × Bool) → Option X
first_cause [] = None
first_cause (c ∷ cs) = cond c.1 (Some c.0) (first_cause cs)

-- no cause of the list applies
abbrev pub Admitted : {X : Type 0} → List (X × Bool) → Type 0
Admitted causes = first_cause causes ≡ None

-- a cause applies, and the first that does has this label
abbrev pub Refused : {X : Type 0} → List (X × Bool) → X → Type 0
Refused causes label = first_cause causes ≡ Some label
