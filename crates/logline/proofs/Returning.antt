-- What is written is read back, and what is read is written back.
use Rattle.std.proofs.Common.{◌≡◌, ℕ, ◌≤◌, List, ◌++◌, length, take, drop, Ok, Err, Result, sym, ap, ◌∙◌, arith, MatchResult}
use Rattle.std.proofs.lemmas.List.{take_at}
use Rattle.logline.specs.declared.events.Event.{Event}
use Rattle.logline.specs.declared.faults.LineFault.{LineFault}
use Rattle.logline.specs.declared.faults.LineFault.TheVariants.{Room, Form}
use Rattle.logline.specs.Events.{Said, said, text, Says}
use Rattle.logline.specs.Fields.{Found}
use Rattle.logline.specs.Reading.{ReadAs}
use Rattle.logline.specs.Writing.{WroteAs, ReadsBack, WritesBack}
use Rattle.logline.proofs.Deciding.{decided}

written_again : (line : List ℕ) (s : Said) → Says line s → (was after : List ℕ) (w : Result ℕ LineFault) → WroteAs s was after w → 96 ≤ length was → MatchResult w (λ n. (n ≡ length line) × (after ≡ line ++ drop n was)) (λ _. ⊥)
written_again line s h was after (Ok n) w room = (w.2 ∙ ap length (sym h.whole), w.3 ∙ ap (λ l. l ++ drop n was) (sym h.whole))
written_again line s h was after (Err (Room k)) w room = omega (arith, w.0)
written_again line s h was after (Err (Form p)) w room = w.1 h.sayable

pub writes_back : (line : List ℕ) (r : Result Event LineFault) → ReadAs line r → WritesBack line r
writes_back line (Ok e) h = written_again line (said e) h
writes_back line (Err f) h = tt

read_again : (line : List ℕ) (s : Said) → Says line s → (r : Result Event LineFault) → ReadAs line r → MatchResult r (λ e. said e ≡ s) (λ _. ⊥)
read_again line s h (Ok e) r = (decided line).one_saying (said e) s r h
read_again line s h (Err (Room k)) r = r
read_again line s h (Err (Form p)) r = (decided line).never_both s p h r

pub reads_back : (s : Said) (was after : List ℕ) (w : Result ℕ LineFault) → WroteAs s was after w → ReadsBack s after w
reads_back s was after (Ok n) w =
    let front : take n after ≡ text s = ap (take n) w.3 ∙ take_at (text s) (drop n was) n (sym w.2) in
    read_again (take n after) s record { whole = front; sayable = w.1 }
reads_back s was after (Err f) w = tt

-- a line whose fields were refused is refused
pub refused : (line : List ℕ) (f : LineFault) → Found line (Err f) → ReadAs line (Err f)
refused line (Room k) h = h
refused line (Form p) h = h
