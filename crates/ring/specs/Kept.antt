-- The exact ring: it keeps the newest 256 stamps, the one of rank r (counted from 0) at place r % 256.
use Rattle.std.specs.Prelude.{ℕ, ◌+◌, ◌-◌, ◌%◌, min, max, Bool, ◌&&◌, ◌||◌, List, length, take, replicate, ◌==◌, nat_lt, slice_index, slice_set}
use Rattle.window.specs.Stamps.{live_count, ascending, newest_stamp}
use Rattle.window.specs.Below.{all_below}
use Rattle.window.specs.Meaning.{Model}
use Rattle.ring.specs.declared.Ring.{Ring}

-- a ring newly made: a window of 0 is made 1, the fineness is brought to 1 up to 6
abbrev pub empty_ring : ℕ → ℕ → Ring
empty_ring w f = record { window = max 1 w; fineness = max 1 (min 6 f); last = 0; taken = 0; stamps = replicate 256 0 }

-- the stamps that a ring keeps, by place: all 256 once as many are taken
abbrev pub kept : Ring → List ℕ
kept c = take (min c.taken 256) c.stamps

-- how many of the kept stamps are live at t over v
abbrev pub live_kept : Ring → ℕ → ℕ → ℕ
live_kept c t v = live_count t v (kept c)

-- each of the newest 256 stamps of a list stands at its place
unfoldable pub placed : List ℕ → List ℕ → Bool
placed stamps xs = all_below (λ r. nat_lt (r + 256) (length xs) || slice_index stamps (r % 256) == slice_index xs r) (length xs)

-- a ring stands for an arrival list whose newest 256 stamps it keeps, where all older ones are dead at the last stamp over the window
unfoldable pub stands_for : Ring → List ℕ → Bool
stands_for c xs =
    ascending xs && (length xs == c.taken && (newest_stamp xs == c.last && (length c.stamps == 256 && (placed c.stamps xs && live_count c.last c.window (take (length xs - 256) xs) == 0))))

-- a ring with t as its newest stamp, in the place of the one 256 ranks before
abbrev pub with_newest : Ring → ℕ → Ring
with_newest c t = record { window = c.window; fineness = c.fineness; last = t; taken = c.taken + 1; stamps = slice_set c.stamps (c.taken % 256) t }

-- what a ring means
abbrev pub ring_model : Model Ring
ring_model = record {
  stands = stands_for;
  low = live_kept;
  high = live_kept;
  window = λ c. c.window;
  fineness = λ c. c.fineness;
  limit = λ c. 256;
  last = λ c. c.last;
  taken = λ c. c.taken;
}
