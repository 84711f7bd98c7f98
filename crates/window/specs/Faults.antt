-- The numbers of a counter's faults, their causes, and what a count and a taking answer.
use Rattle.std.specs.Prelude.{◌≡◌, ℕ, ◌-◌, ◌*◌, ◌≤◌, Bool, ◌||◌, List, [], ◌∷◌, ◌++◌, Ok, Err, Result, ◌==◌, nat_le, nat_lt}
use Rattle.window.specs.declared.CounterFault.{CounterFault}
use Rattle.window.specs.declared.CounterFault.TheVariants.{Early, Span, Spent, Full}
use Rattle.window.specs.Causes.{Admitted, Refused}
use Rattle.window.specs.Meaning.{Model, Stands, Between, SameSettings}

-- the number of each fault
abbrev pub number : CounterFault → ℕ
number Early = 9
number Span = 10
number Spent = 13
number Full = 14

-- the most arrivals that a counter takes
abbrev pub most_taken : ℕ
most_taken = 16777215

-- why a question at t over v is refused
abbrev pub question_causes : (last window t v : ℕ) → List (ℕ × Bool)
question_causes last window t v = (number Early, nat_lt t last) ∷ ((number Span, (v == 0) || nat_lt window v) ∷ [])

-- why stamp t is refused, by what is told of the stamps before it
abbrev pub turn_causes : (last taken t : ℕ) → List (ℕ × Bool)
turn_causes last taken t = (number Early, nat_lt t last) ∷ ((number Spent, nat_le most_taken taken) ∷ [])

-- why a stamp is refused, by the high over the window
abbrev pub room_causes : (high limit : ℕ) → List (ℕ × Bool)
room_causes high limit = (number Full, nat_le limit high) ∷ []

-- why a counter refuses to count at t over v
abbrev pub count_causes : {C : Type 0} → Model C → C → ℕ → ℕ → List (ℕ × Bool)
count_causes m c t v = question_causes (m.last c) (m.window c) t v

-- why a counter refuses to take t
abbrev pub take_causes : {C : Type 0} → Model C → C → ℕ → List (ℕ × Bool)
take_causes m c t = turn_causes (m.last c) (m.taken c) t ++ room_causes (m.high c t (m.window c)) (m.limit c)

-- a test of causes: passed where none applies, else refused with the number of the first that does
abbrev pub Tested : List (ℕ × Bool) → Result (Unit {0}) CounterFault → Type 0
Tested causes (Ok u) = Admitted causes
Tested causes (Err f) = Refused causes (number f)

-- the pair of numbers that a count gives
pub record Estimate {C : Type 0} (m : Model C) (c : C) (t v : ℕ) (pair : ℕ × ℕ) : Type 0 where
  pub low : pair.0 ≡ m.low c t v
  pub high : pair.1 ≡ m.high c t v
  pub lies_between : Between m c t v pair.0 pair.1
  pub near : m.fineness c * (pair.1 - pair.0) ≤ pair.0
  pub bounded : pair.1 ≤ 8190

-- stamp t has arrived: each list stood for before has t at its end now
pub record Arrived {C : Type 0} (m : Model C) (before after : C) (t : ℕ) : Type 0 where
  pub grown : (xs : List ℕ) → Stands m before xs → Stands m after (xs ++ (t ∷ []))
  pub settings : SameSettings m before after

-- what a count answers
abbrev pub Counted : {C : Type 0} → Model C → C → ℕ → ℕ → Result (ℕ × ℕ) CounterFault → Type 0
Counted m c t v (Ok pair) = Admitted (count_causes m c t v) × Estimate m c t v pair
Counted m c t v (Err f) = Refused (count_causes m c t v) (number f)

-- what a taking answers, and what the counter then holds
abbrev pub Took : {C : Type 0} → Model C → C → C → ℕ → Result (Unit {0}) CounterFault → Type 0
Took m before after t (Ok u) = Admitted (take_causes m before t) × Arrived m before after t
Took m before after t (Err f) = Refused (take_causes m before t) (number f) × (after ≡ before)
