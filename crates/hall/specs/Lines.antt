-- Lines as they stand in a file.
use Rattle.std.specs.Prelude.{ℕ, ◌-◌, Bool, cond, List, length, take, ◌==◌, slice_index}

-- the last byte is a newline
abbrev pub ends_with_newline : List ℕ → Bool
ends_with_newline bytes = slice_index bytes (length bytes - 1) == 10

-- the bytes of a line without the last one where that is a newline
abbrev pub without_newline : List ℕ → List ℕ
without_newline bytes = cond (ends_with_newline bytes) (take (length bytes - 1) bytes) bytes
