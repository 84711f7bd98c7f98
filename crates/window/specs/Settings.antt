-- The ranges of a counter's settings.
use Rattle.std.specs.Prelude.{ℕ, Bool, ◌&&◌, nat_le}

-- the window is 1 up to 4,294,967,295 and the fineness 1 up to 6
abbrev pub in_range : (w m : ℕ) → Bool
in_range w m = (nat_le 1 w && nat_le w 4294967295) && (nat_le 1 m && nat_le m 6)
