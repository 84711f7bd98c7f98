-- The true number of plays, from the plays that were accepted.
use Rattle.std.specs.Prelude.{ℕ, Bool, ◌&&◌, List, count_by, nat_le}
use Rattle.window.specs.Stamps.{is_live}
use Rattle.evening.specs.declared.ledger.Entry.{Entry}

-- a play is live at t over v, and of a key from first to last
abbrev pub live_in : (first last t v : ℕ) → Entry → Bool
live_in first last t v e = is_live t v e.stamp && (nat_le first e.key && nat_le e.key last)

-- how many plays are
abbrev pub true_count : List Entry → (first last t v : ℕ) → ℕ
true_count entries first last t v = count_by (live_in first last t v) entries
