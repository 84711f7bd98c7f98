-- A line and its pieces: what stands between blanks.
use Rattle.std.specs.Prelude.{ℕ, cond, List, [], ◌∷◌, ◌++◌, ◌==◌, ◌≢◌}
use Rattle.std.specs.List.{AllByRecursion}

-- bytes without a blank
abbrev pub NoBlank : List ℕ → Type 0
NoBlank bs = AllByRecursion (λ b. b ≢ 32) bs

-- each piece after a blank of its own
abbrev pub led : List (List ℕ) → List ℕ
led [] = []
led (p ∷ ps) = 32 ∷ (p ++ led ps)

-- pieces with one blank between them
abbrev pub spaced : List (List ℕ) → List ℕ
spaced [] = []
spaced (p ∷ ps) = p ++ led ps

-- a byte put before the first piece
abbrev pub begun_by : ℕ → List (List ℕ) → List (List ℕ)
begun_by b [] = (b ∷ []) ∷ []
begun_by b (p ∷ ps) = (b ∷ p) ∷ ps

-- a line cut at every blank
abbrev pub cut : List ℕ → List (List ℕ)
cut [] = [] ∷ []
cut (b ∷ bs) = cond (b == 32) ([] ∷ cut bs) (begun_by b (cut bs))
