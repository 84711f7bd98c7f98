-- Where the seed words of a level and row stand, and one word more of a column.
use Rattle.std.proofs.Common.{◌≡◌, ℕ, ◌+◌, ◌/◌, ◌%◌, ◌^◌, cond, List, get_or, ap, ◌∙◌, add-one}
use lib.Bits.{bit_xor, xor_zero_r}
use Rattle.std.proofs.lemmas.Bool.{eq-eqb, ne_eqb}
use Rattle.sketch.specs.Layout.{mixed}

pub mixed_more_yes : (words : List ℕ) (p n i : ℕ) → i / 2 ^ n % 2 ≡ 1 → mixed words p (n + 1) i ≡ bit_xor (mixed words p n i) (get_or words (p + n) 0)
mixed_more_yes words p n i h = ap (λ m. mixed words p m i) (add-one n) ∙ ap (λ c. bit_xor (mixed words p n i) (cond c (get_or words (p + n) 0) 0)) (eq-eqb (i / 2 ^ n % 2) 1 h)

pub mixed_more_no : (words : List ℕ) (p n i : ℕ) → (i / 2 ^ n % 2 ≡ 1 → ⊥) → mixed words p (n + 1) i ≡ mixed words p n i
mixed_more_no words p n i h = ap (λ m. mixed words p m i) (add-one n) ∙ ap (λ c. bit_xor (mixed words p n i) (cond c (get_or words (p + n) 0) 0)) (ne_eqb (i / 2 ^ n % 2) 1 h) ∙ xor_zero_r (mixed words p n i)
