-- What writing an event answers and leaves, and both round trips.
use Rattle.std.specs.Prelude.{◌≡◌, ℕ, ◌<◌, ◌≤◌, List, ◌++◌, length, take, drop, IfOk, Ok, Err, Result, MatchResult}
use Rattle.logline.specs.declared.events.Event.{Event}
use Rattle.logline.specs.declared.faults.LineFault.{LineFault}
use Rattle.logline.specs.declared.faults.LineFault.TheVariants.{Room, Form}
use Rattle.logline.specs.Events.{Said, said, text, Sayable}
use Rattle.logline.specs.Reading.{ReadAs}

-- the places held `was` and hold `after`: the text and what stood behind it, or all as it was
abbrev pub WroteAs : Said → (was after : List ℕ) → Result ℕ LineFault → Type 0
WroteAs s was after (Ok n) = (96 ≤ length was) × Sayable s × (n ≡ length (text s)) × (after ≡ text s ++ drop n was)
WroteAs s was after (Err (Room needed)) = (length was < 96) × (needed ≡ 96) × (after ≡ was)
WroteAs s was after (Err (Form place)) = (96 ≤ length was) × (Sayable s → ⊥) × (place ≡ 96) × (after ≡ was)

-- whatever reading answers to what was written, it is the same event
abbrev pub ReadsBack : Said → List ℕ → Result ℕ LineFault → Type 0
ReadsBack s after w = IfOk w (λ n. (r : Result Event LineFault) → ReadAs (take n after) r → MatchResult r (λ e. said e ≡ s) (λ _. ⊥))

-- whatever writing an event that was read answers and leaves, given room, it is the same line
abbrev pub WritesBack : List ℕ → Result Event LineFault → Type 0
WritesBack line r = IfOk r (λ e. (was after : List ℕ) (w : Result ℕ LineFault) → WroteAs (said e) was after w → 96 ≤ length was → MatchResult w (λ n. (n ≡ length line) × (after ≡ line ++ drop n was)) (λ _. ⊥))
