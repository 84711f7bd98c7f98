-- What a counter beside the plays it took answers.
use Rattle.std.specs.Prelude.{◌≡◌, ℕ, ◌≤◌, List, [], ◌∷◌, ◌++◌, Ok, Err, Result}
use Rattle.window.specs.declared.CounterFault.{CounterFault}
use Rattle.window.specs.Causes.{Admitted, Refused}
use Rattle.window.specs.Stamps.{live_count}
use Rattle.window.specs.Meaning.{Model}
use Rattle.window.specs.Faults.{number, count_causes, take_causes}
use Rattle.compare.specs.declared.answer.Answer.{Answer}
use Rattle.compare.specs.declared.answer.LaneFault.{LaneFault}
use Rattle.compare.specs.declared.answer.LaneFault.TheVariants.{Counter, Memory}

-- the truth is the number of live plays, and lies from low to high
pub record Truthful (plays : List ℕ) (t v : ℕ) (a : Answer) : Type 0 where
  pub exact : a.truth ≡ live_count t v plays
  pub above_low : a.low ≤ a.truth
  pub below_high : a.truth ≤ a.high

-- what a question answers: a truthful answer, or the counter's own refusal
abbrev pub Answered : {C : Type 0} → Model C → C → List ℕ → ℕ → ℕ → Result Answer CounterFault → Type 0
Answered m c plays t v (Ok a) = Admitted (count_causes m c t v) × Truthful plays t v a
Answered m c plays t v (Err f) = Refused (count_causes m c t v) (number f)

-- what a play does to the plays kept: added at their end, or left as they were where the counter refuses it or memory fails
abbrev pub Played : {C : Type 0} → Model C → C → (before after : List ℕ) → ℕ → Result (Unit {0}) LaneFault → Type 0
Played m c before after t (Ok u) = Admitted (take_causes m c t) × (after ≡ before ++ (t ∷ []))
Played m c before after t (Err (Counter f)) = Refused (take_causes m c t) (number f) × (after ≡ before)
Played m c before after t (Err Memory) = after ≡ before
