-- Seed words drawn from a number by 32-bit xorshift.
use Rattle.std.specs.Prelude.{ℕ, zero, suc, ◌/◌, ◌^◌, List, [], ◌∷◌}
use Rattle.xorshift.specs.Xorshift.{next}

-- the two highest of 32 bits
abbrev pub top_bits : ℕ → ℕ
top_bits x = x / 2 ^ 30

-- so many words after x: the highest bits of each next number
unfoldable pub words_from : ℕ → ℕ → List ℕ
words_from zero x = []
words_from (suc n) x = top_bits (next x) ∷ words_from n (next x)
