-- The numbers of the two faults.
use Rattle.std.specs.Prelude.{ℕ}
use Rattle.logline.specs.declared.faults.LineFault.{LineFault}
use Rattle.logline.specs.declared.faults.LineFault.TheVariants.{Room, Form}

-- the number by which a fault is told
abbrev pub number_of : LineFault → ℕ
number_of (Room needed) = 15
number_of (Form place) = 16
