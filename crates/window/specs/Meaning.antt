-- What a window counter means, and the rules that every one keeps.
use Rattle.std.specs.Prelude.{◌≡◌, ℕ, ◌-◌, ◌*◌, ◌<◌, ◌≤◌, min, max, Bool, true, List, [], length}
use Rattle.window.specs.Stamps.{live_count, ascending, newest_stamp}

-- what a held value means: the arrival lists it stands for, its estimates, and what it tells
pub record Model (C : Type 0) : Type 0 where
  -- whether it stands for an arrival list
  pub stands : C → List ℕ → Bool
  -- the estimates at a time over a span
  pub low : C → ℕ → ℕ → ℕ
  pub high : C → ℕ → ℕ → ℕ
  -- the numbers it tells
  pub window : C → ℕ
  pub fineness : C → ℕ
  pub limit : C → ℕ
  pub last : C → ℕ
  pub taken : C → ℕ

-- c stands for the arrival list xs
abbrev pub Stands : {C : Type 0} → Model C → C → List ℕ → Type 0
Stands m c xs = m.stands c xs ≡ true

-- a time and a span that may be asked: the time is not before the last stamp, the span is 1 up to the window
pub record Permitted (last window t v : ℕ) : Type 0 where
  pub in_time : last ≤ t
  pub some : 0 < v
  pub within : v ≤ window

-- the live number of every list that c stands for lies from low to high
abbrev pub Between : {C : Type 0} → Model C → C → (t v low high : ℕ) → Type 0
Between m c t v low high = (xs : List ℕ) → Stands m c xs → (low ≤ live_count t v xs) × (live_count t v xs ≤ high)

-- the rules that every window counter keeps, whatever it holds
pub record Keeps {C : Type 0} (m : Model C) : Type 0 where
  -- each list it stands for is an arrival list, has as many stamps as were taken, and ends with the last stamp
  pub list_ascends : (c : C) (xs : List ℕ) → Stands m c xs → ascending xs ≡ true
  pub list_has_taken : (c : C) (xs : List ℕ) → Stands m c xs → length xs ≡ m.taken c
  pub list_ends_with_last : (c : C) (xs : List ℕ) → Stands m c xs → newest_stamp xs ≡ m.last c
  -- at each permitted time and span: the live number lies between, and the two are near and small
  pub count_lies_between : (c : C) (t v : ℕ) → Permitted (m.last c) (m.window c) t v → Between m c t v (m.low c t v) (m.high c t v)
  pub estimates_near : (c : C) (t v : ℕ) → Permitted (m.last c) (m.window c) t v → m.fineness c * (m.high c t v - m.low c t v) ≤ m.low c t v
  pub high_bounded : (c : C) (t v : ℕ) → Permitted (m.last c) (m.window c) t v → m.high c t v ≤ 8190
  -- the limit lies in its range
  pub limit_least : (c : C) → 256 ≤ m.limit c
  pub limit_most : (c : C) → m.limit c ≤ 4095

-- a counter newly made from a window and a fineness: a window of 0 is made 1, the fineness is brought to 1 up to 6
pub record Fresh {C : Type 0} (m : Model C) (w f : ℕ) (c : C) : Type 0 where
  pub window : m.window c ≡ max 1 w
  pub fineness : m.fineness c ≡ max 1 (min 6 f)
  pub stands_for_empty : Stands m c []
  pub last : m.last c ≡ 0
  pub taken : m.taken c ≡ 0

-- what no taking changes
pub record SameSettings {C : Type 0} (m : Model C) (before after : C) : Type 0 where
  pub window : m.window after ≡ m.window before
  pub fineness : m.fineness after ≡ m.fineness before
  pub limit : m.limit after ≡ m.limit before
