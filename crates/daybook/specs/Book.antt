-- The day book: the true record of what was enrolled and played.
use Rattle.std.specs.Prelude.{ℕ, ◌+◌, ◌<◌, Bool, true, false, cond, ◌&&◌, List, [], ◌∷◌, ◌++◌, map, length, count_by, ◌==◌}
use Rattle.window.specs.Stamps.{is_live}
use Rattle.sketch.specs.Plays.{KeyedPlay}

-- a serial, by its bytes
abbrev pub Serial : Type 0
Serial = List ℕ

-- two serials are the same: every byte counts
abbrev pub same_bytes : Serial → Serial → Bool
same_bytes [] [] = true
same_bytes [] (y ∷ ys) = false
same_bytes (x ∷ xs) [] = false
same_bytes (x ∷ xs) (y ∷ ys) = x == y && same_bytes xs ys

-- a play as the book notes it: which cabinet, and when
pub record Play : Type 0 where
  pub serial : Serial
  pub stamp : ℕ

-- the enrolled serials and the plays, each in the order in which they came
pub record Book : Type 0 where
  pub enrolled : List Serial
  pub plays : List Play

-- what may be asked of a board after opening, with its arguments
pub data Call : Type 0 where
  enrol : Serial → Call
  play : Serial → ℕ → Call
  ask : Serial → ℕ → ℕ → Call
  range : ℕ → ℕ → ℕ → ℕ → Call
  list : ℕ → ℕ → ℕ → Call

-- the book of a newly opened board
abbrev pub empty_book : Book
empty_book = record { enrolled = []; plays = [] }

-- what the book makes of one call, and of whether it was accepted: an accepted enrol and an accepted play add at the end, nothing else changes it
abbrev pub noted : Book → Call → Bool → Book
noted b (enrol s) true = record { enrolled = b.enrolled ++ s ∷ []; plays = b.plays }
noted b (enrol s) false = b
noted b (play s t) true = record { enrolled = b.enrolled; plays = b.plays ++ (record { serial = s; stamp = t }) ∷ [] }
noted b (play s t) false = b
noted b (ask s t v) accepted = b
noted b (range x y t v) accepted = b
noted b (list g t v) accepted = b

-- the key of a serial among enrolled ones: how many stand before it; of one that is not enrolled, how many there are
abbrev pub key_in : List Serial → Serial → ℕ
key_in [] s = 0
key_in (e ∷ es) s = cond (same_bytes e s) 0 (1 + key_in es s)

abbrev pub key_of : Book → Serial → ℕ
key_of b s = key_in b.enrolled s

-- a serial is enrolled
abbrev pub Enrolled : Book → Serial → Type 0
Enrolled b s = key_of b s < length b.enrolled

-- the plays by key
abbrev pub keyed : Book → List KeyedPlay
keyed b = map (λ p. record { key = key_of b p.serial; stamp = p.stamp }) b.plays

-- how many live plays a cabinet has, by its serial
abbrev pub count_of_cabinet : Book → Serial → ℕ → ℕ → ℕ
count_of_cabinet b s t v = count_by (λ p. is_live t v p.stamp && same_bytes s p.serial) b.plays
