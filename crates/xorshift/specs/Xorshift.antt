-- The numbers of 32-bit xorshift.
use Rattle.std.specs.Prelude.{ℕ, ◌*◌, ◌/◌, ◌%◌, ◌^◌, bit_xor}

-- x shifted to the left within 32 bits, and mixed with x
abbrev pub mixed_left : (k x : ℕ) → ℕ
mixed_left k x = bit_xor x ((x * 2 ^ k) % 2 ^ 32)

-- x shifted to the right, and mixed with x
abbrev pub mixed_right : (k x : ℕ) → ℕ
mixed_right k x = bit_xor x (x / 2 ^ k)

-- the number after x
abbrev pub next : ℕ → ℕ
next x = mixed_left 5 (mixed_right 17 (mixed_left 13 x))
