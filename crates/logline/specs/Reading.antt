-- What reading a line answers, and that the answer is decided.
use Rattle.std.specs.Prelude.{◌≡◌, ℕ, List, Ok, Err, Result}
use Rattle.std.specs.List.{AllByRecursion}
use Rattle.logline.specs.declared.events.Event.{Event}
use Rattle.logline.specs.declared.faults.LineFault.{LineFault}
use Rattle.logline.specs.declared.faults.LineFault.TheVariants.{Room, Form}
use Rattle.logline.specs.Pieces.{NoBlank, spaced, cut}
use Rattle.logline.specs.Events.{Said, said, Says}
use Rattle.logline.specs.Refusals.{NotOfForm}

-- an event whose text the line is, or the place where the line is of no form
abbrev pub ReadAs : List ℕ → Result Event LineFault → Type 0
ReadAs line (Ok e) = Says line (said e)
ReadAs line (Err (Room needed)) = ⊥
ReadAs line (Err (Form place)) = NotOfForm line place

-- a line says one thing at most, is refused at one place at most, and never both; its pieces have no blank and make it up
pub record Decided (line : List ℕ) : Type 0 where
  pub one_saying : (s t : Said) → Says line s → Says line t → s ≡ t
  pub one_place : (p q : ℕ) → NotOfForm line p → NotOfForm line q → p ≡ q
  pub never_both : (s : Said) (p : ℕ) → Says line s → NotOfForm line p → ⊥
  pub cut_apart : (spaced (cut line) ≡ line) × AllByRecursion NoBlank (cut line)
