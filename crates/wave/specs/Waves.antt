-- What a deterministic wave means.
use Rattle.std.specs.Prelude.{ℕ, suc, ◌+◌, ◌-◌, ◌*◌, ◌/◌, ◌%◌, ◌^◌, min, Bool, cond, not, ◌&&◌, ◌||◌, List, length, replicate, ◌==◌, nat_le, nat_lt, slice_index, slice_set}
use Rattle.window.specs.Below.{all_below}
use Rattle.window.specs.Settings.{in_range}
use Rattle.window.specs.Meaning.{Model}
use Rattle.window.specs.Stamps.{is_live, ascending, newest_stamp}
use Rattle.wave.specs.Ranks.{top, kept}
use Rattle.wave.specs.Searches.{first_below, last_below}
use Rattle.wave.specs.declared.Wave.{Wave}

-- some level of the wave keeps rank r
abbrev pub is_kept : Wave → ℕ → Bool
is_kept c r = kept c.taken c.fineness r

-- where the stamp of rank r stands, the same for every level: 8 places for the ranks of each highest level below 11, 16 for those of level 11
abbrev pub place : ℕ → ℕ
place r = cond (nat_lt (top r) 11) (8 * top r + r / 2 ^ (top r + 1) % 8) (88 + r / 2 ^ 11 % 16)

-- the stamp held of rank r
abbrev pub stamp_of : Wave → ℕ → ℕ
stamp_of c r = slice_index c.stamps (place r)

-- rank r is live at t over v; the mark never is
abbrev pub rank_live : Wave → ℕ → ℕ → ℕ → Bool
rank_live c t v r = nat_lt 0 r && is_live t v (stamp_of c r)

-- the smallest kept live rank, or one past the newest rank where none is live
unfoldable pub oldest_live : Wave → ℕ → ℕ → ℕ
oldest_live c t v = first_below (λ r. is_kept c r && rank_live c t v r) (c.taken + 1) (c.taken + 1)

-- the largest kept dead rank, or the one before the smallest live one where none is dead
unfoldable pub newest_dead : Wave → ℕ → ℕ → ℕ
newest_dead c t v = last_below (λ r. is_kept c r && not (rank_live c t v r)) (oldest_live c t v - 1) (c.taken + 1)

-- the ranks from the smallest kept live one on
abbrev pub low_of : Wave → ℕ → ℕ → ℕ
low_of c t v = c.taken + 1 - oldest_live c t v

-- the ranks after the largest kept dead one, 8,190 at most, or 0 where none is live
abbrev pub high_of : Wave → ℕ → ℕ → ℕ
high_of c t v = cond (nat_le (oldest_live c t v) c.taken) (min (c.taken - newest_dead c t v) 8190) 0

-- stamps never fall as kept ranks rise
unfoldable pub rises : Wave → Bool
rises c = all_below (λ b. all_below (λ a. not (nat_lt 0 a && (is_kept c a && is_kept c b)) || nat_le (stamp_of c a) (stamp_of c b)) b) (c.taken + 1)

-- no kept stamp is after the last one
unfoldable pub none_late : Wave → Bool
none_late c = all_below (λ r. not (nat_lt 0 r && is_kept c r) || nat_le (stamp_of c r) c.last) (c.taken + 1)

-- a wave is sound: its settings are in range, it has all its places, its stamps are in order, and it holds no more than the limit
unfoldable pub sound : Wave → Bool
sound c =
    in_range c.window c.fineness && (length c.stamps == 104 && ((rises c && none_late c) && nat_le (low_of c c.last c.window) 4095))

-- the stamp held of each kept rank r is the r-th of the list
unfoldable pub agrees : Wave → List ℕ → Bool
agrees c xs = all_below (λ i. not (is_kept c (suc i)) || stamp_of c (suc i) == slice_index xs i) c.taken

-- a sound wave stands for the arrival lists that agree with it; one that is not sound for none
abbrev pub wave_stands : Wave → List ℕ → Bool
wave_stands c xs = sound c && ((length xs == c.taken && (ascending xs && newest_stamp xs == c.last)) && agrees c xs)

-- what a wave counts: one that is not sound counts 0 and 0
abbrev pub wave_low : Wave → ℕ → ℕ → ℕ
wave_low c t v = cond (sound c) (low_of c t v) 0

abbrev pub wave_high : Wave → ℕ → ℕ → ℕ
wave_high c t v = cond (sound c) (high_of c t v) 0

-- a new wave
abbrev pub fresh : (w m : ℕ) → Wave
fresh w m = record { window = w; fineness = m; last = 0; taken = 0; stamps = replicate 104 0 }

-- a wave that stamp t has come to: the next rank has it. One that is not sound keeps its stamps
abbrev pub arrived : Wave → ℕ → Wave
arrived c t = record {
  window = c.window;
  fineness = c.fineness;
  last = t;
  taken = c.taken + 1;
  stamps = cond (sound c) (slice_set c.stamps (place (c.taken + 1)) t) c.stamps;
}

-- the wave as a window counter
abbrev pub wave_model : Model Wave
wave_model = record {
  stands = wave_stands;
  low = wave_low;
  high = wave_high;
  window = λ c. c.window;
  fineness = λ c. c.fineness;
  limit = λ c. 4095;
  last = λ c. c.last;
  taken = λ c. c.taken;
}
