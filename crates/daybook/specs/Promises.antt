-- What a board promises against the day book, over any counter.
use Rattle.std.specs.Prelude.{ℕ, ◌+◌, ◌*◌, ◌<◌, ◌≤◌, List, [], ◌∷◌, length}
use Rattle.std.specs.List.{ContainsAt as Has, AllByRecursion}
use Rattle.window.specs.Meaning.{Model, Permitted}
use Rattle.sketch.specs.Layout.{node_of}
use Rattle.sketch.specs.Pieces.{over_pieces}
use Rattle.sketch.specs.Plays.{count_in, least_row_count}
use Rattle.sketch.specs.Laws.{clear_count}
use Rattle.daybook.specs.Book.{Book, Serial, key_of, Enrolled, keyed, count_of_cabinet}
use Rattle.daybook.specs.Boards.{State, low_of, high_of, listed}

-- numbers that rise, none below lo
abbrev pub Rising : ℕ → List ℕ → Type 0
Rising lo [] = Unit {0}
Rising lo (x ∷ xs) = (lo ≤ x) × Rising (x + 1) xs

-- the answers of a board hold against a book, at t over v
pub record Holds {C : Type 0} (m : Model C) (σ : State C) (d : C) (book : Book) (t v : ℕ) : Type 0 where
  -- the book's count of every key range, and of every enrolled cabinet, lies from low to high
  pub range_above_low : (a b : ℕ) → low_of m σ d t v a b ≤ count_in (keyed book) a b t v
  pub range_below_high : (a b : ℕ) → count_in (keyed book) a b t v ≤ high_of m σ d t v a b
  pub cabinet_above_low : (s : Serial) → Enrolled book s → low_of m σ d t v (key_of book s) (key_of book s) ≤ count_of_cabinet book s t v
  pub cabinet_below_high : (s : Serial) → Enrolled book s → count_of_cabinet book s t v ≤ high_of m σ d t v (key_of book s) (key_of book s)
  -- over the pieces of a range, high is near the least row counts, and low is near the counts of the clear pieces
  pub high_near : (a b : ℕ) → σ.shape.fineness * high_of m σ d t v a b ≤ (σ.shape.fineness + 1) * over_pieces σ.shape.bits a b (least_row_count σ.shape (keyed book) t v)
  pub low_near : (a b : ℕ) → σ.shape.fineness * over_pieces σ.shape.bits a b (clear_count σ.shape (length σ.register) (keyed book) t v) ≤ (σ.shape.fineness + 1) * low_of m σ d t v a b
  -- the list for g names enrolled keys only, rising and so each once, and every cabinet with g or more live plays
  pub listed_enrolled : (g : ℕ) → AllByRecursion (λ x. x < length book.enrolled) (listed m σ d t v g)
  pub listed_rising : (g : ℕ) → Rising 0 (listed m σ d t v g)
  pub busy_listed : (g : ℕ) (s : Serial) → Enrolled book s → g ≤ count_of_cabinet book s t v → Has (listed m σ d t v g) (key_of book s)
  -- at every level the least row count of a listed one's node is near g
  pub listed_busy : (g x k : ℕ) → Has (listed m σ d t v g) x → k ≤ σ.shape.bits → σ.shape.fineness * g ≤ (σ.shape.fineness + 1) * least_row_count σ.shape (keyed book) t v k (node_of k x)

-- they hold at every permitted time and span
abbrev pub Guarantee : {C : Type 0} → Model C → State C → Book → Type 0
Guarantee {C} m σ book = (d : C) (t v : ℕ) → Permitted σ.clock σ.shape.window t v → Holds m σ d book t v
