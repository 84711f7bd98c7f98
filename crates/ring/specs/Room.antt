-- When a ring has room.
use Rattle.std.specs.Prelude.{◌≡◌, ℕ, ◌+◌, ◌%◌, ◌<◌, ◌≤◌, min, false, cond, List, length, take, drop, nat_le, slice_index, slice_index_or}
use Rattle.std.proofs.Common.{sym, ap, ◌∙◌, arith}
use Rattle.std.proofs.lemmas.Bool.{lt-leb}
use Rattle.std.proofs.lemmas.List.{length-take, length-drop, get_or-take}
use Rattle.std.proofs.lemmas.List.Sums.{sum_by-drop_more}
use Rattle.window.specs.Stamps.{is_live, live_count}
use Rattle.window.proofs.Arrivals.{live_le, live_split}
use Rattle.ring.specs.Kept.{kept, live_kept}
use Rattle.ring.specs.declared.Ring.{Ring}

-- no more are live than are kept
pub live_few : (c : Ring) (t v : ℕ) → live_kept c t v ≤ min c.taken 256
live_few c t v = omega (arith, live_le t v (kept c), length-take (min c.taken 256) c.stamps)

-- where one stamp of a list is dead, not all are live
dead_one : (t v : ℕ) (xs : List ℕ) (i : ℕ) → i < length xs → is_live t v (slice_index xs i) ≡ false → live_count t v xs < length xs
dead_one t v xs i h e =
    let at = sum_by-drop_more (λ s. cond (is_live t v s) 1 0) xs i 0 h ∙ ap (λ b. cond b 1 0 + live_count t v (drop (i + 1) xs)) e in
    omega (arith, live_split t v i xs, at, live_le t v (take i xs), length-take i xs, live_le t v (drop (i + 1) xs), length-drop (i + 1) xs)

-- a ring that has not taken 256 stamps is not full
pub free_early : (c : Ring) (t v : ℕ) → c.taken < 256 → false ≡ nat_le 256 (live_kept c t v)
free_early c t v h = sym (lt-leb 256 (live_kept c t v) (omega (arith, live_few c t v)))

-- a ring is not full where the stamp that would be replaced is dead
pub free_oldest : (c : Ring) (t v : ℕ) → 256 ≤ c.taken → length c.stamps ≡ 256 → is_live t v (slice_index c.stamps (c.taken % 256)) ≡ false → false ≡ nat_le 256 (live_kept c t v)
free_oldest c t v h room e =
    let i = c.taken % 256 in
    let all : min c.taken 256 ≡ 256 = omega arith in
    let at : slice_index_or (kept c) i 0 ≡ slice_index_or c.stamps i 0 = get_or-take (min c.taken 256) c.stamps i 0 (omega arith) in
    let many : length (kept c) ≡ 256 = omega (arith, length-take (min c.taken 256) c.stamps) in
    let fewer = dead_one t v (kept c) i (omega arith) (ap (is_live t v) at ∙ e) in
    sym (lt-leb 256 (live_kept c t v) (omega arith))
