-- Serials and records of the register.
use Rattle.std.specs.Prelude.{◌≡◌, ℕ, ◌<◌, Bool, cond, ◌&&◌, ◌||◌, List, map, length, take, Some, None, Option, ◌==◌, nat_le}
use Rattle.std.specs.List.{list_all}
use Rattle.daybook.specs.Book.{Serial, key_in}
use Rattle.board.specs.declared.records.Record.{Record}

-- a byte is one of 0 to 9 or A to Z
abbrev pub is_serial_byte : ℕ → Bool
is_serial_byte b = (nat_le 48 b && nat_le b 57) || (nat_le 65 b && nat_le b 90)

-- every byte is one of 0 to 9 or A to Z
abbrev pub all_serial_bytes : List ℕ → Bool
all_serial_bytes bytes = list_all is_serial_byte bytes

-- a serial is sixteen such bytes
abbrev pub is_serial : List ℕ → Bool
is_serial bytes = length bytes == 16 && all_serial_bytes bytes

-- the record of a serial, where the bytes are one
abbrev pub record_of : List ℕ → Option Record
record_of bytes = cond (is_serial bytes) (Some (record { serial = bytes })) None

-- the serials that records hold
abbrev pub serials : List Record → List Serial
serials records = map (λ r. r.serial) records

-- the serials that are enrolled: those of the first records
abbrev pub serials_of : ℕ → List Record → List Serial
serials_of enrolled records = serials (take enrolled records)

-- the key of a serial that is enrolled
abbrev pub IsKey : List Serial → Serial → ℕ → Type 0
IsKey enrolled serial key = (key ≡ key_in enrolled serial) × (key < length enrolled)

-- the record of a serial
abbrev pub IsRecordOf : List ℕ → Record → Type 0
IsRecordOf bytes r = r ≡ record { serial = bytes }
