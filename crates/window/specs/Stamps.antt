-- Stamps, and lists of them in the order of their arrival. A stamp is a count of seconds.
use Rattle.std.specs.Prelude.{ℕ, ◌-◌, Bool, true, ◌&&◌, List, [], ◌∷◌, count_by, nat_le, nat_lt}

-- stamp s is live at time t over span v: not after t, and less than v before it
abbrev pub is_live : ℕ → ℕ → ℕ → Bool
is_live t v s = nat_le s t && nat_lt (t - s) v

-- how many stamps of a list are live at t over v
abbrev pub live_count : ℕ → ℕ → List ℕ → ℕ
live_count t v xs = count_by (is_live t v) xs

-- no stamp is smaller than the one before it, nor the first smaller than lo
abbrev pub ascends_from : ℕ → List ℕ → Bool
ascends_from lo [] = true
ascends_from lo (x ∷ xs) = nat_le lo x && ascends_from x xs

-- an arrival list: the oldest stamp first, none smaller than the one before it
abbrev pub ascending : List ℕ → Bool
ascending xs = ascends_from 0 xs

-- the last of a list of stamps, or d where it is empty
abbrev pub last_or : ℕ → List ℕ → ℕ
last_or d [] = d
last_or d (x ∷ xs) = last_or x xs

-- the newest stamp of an arrival list, 0 where it is empty
abbrev pub newest_stamp : List ℕ → ℕ
newest_stamp xs = last_or 0 xs
