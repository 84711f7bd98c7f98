-- The nodes of keys that follow one another.
use Rattle.std.proofs.Common.{◌≡◌, ℕ, ◌+◌, ◌-◌, ◌/◌, ◌^◌, ◌<◌, ◌≤◌, sym, ap, ◌∙◌, ⊎_elim, arith}
use lib.Count.{trailing_of_zero}
use Rattle.std.proofs.lemmas.Bool.{cases_lt}
use Rattle.std.proofs.lemmas.Nat.{pow_pos, shl-shr, shr-shr, shr_split, mod_below, div_below, le-div}
use Rattle.sketch.specs.Layout.{node_of, first_key}
use Rattle.sketch.proofs.Trailing.{zeros_below}
use Rattle.listing.specs.Answers.{new_levels}

-- keys with one node have the same nodes above it
pub same_above : (x y k j : ℕ) → k ≤ j → node_of k x ≡ node_of k y → node_of j x ≡ node_of j y
same_above x y k j l e =
    let up : k + (j - k) ≡ j = omega arith in
    ap (λ n. x / 2 ^ n) (sym up) ∙ sym (shr-shr x k (j - k)) ∙ ap (λ n. n / 2 ^ (j - k)) e ∙ shr-shr y k (j - k) ∙ ap (λ n. y / 2 ^ n) up

-- the key after a node is above the keys of the node
pub after_above : (x k : ℕ) → x < first_key k (node_of k x + 1)
after_above x k = omega (arith, shr_split x k, mod_below x (2 ^ k) (pow_pos k))

-- the keys from x up to that after its node at level k have that node
pub within_node : (x y k : ℕ) → x ≤ y → y < first_key k (node_of k x + 1) → node_of k y ≡ node_of k x
within_node x y k from to =
    let most : y / 2 ^ k < x / 2 ^ k + 1 = div_below y (2 ^ k) (x / 2 ^ k + 1) (pow_pos k) to in
    let least : x / 2 ^ k ≤ y / 2 ^ k = le-div (x / 2 ^ k) y (2 ^ k) (pow_pos k) (omega (arith, shr_split x k)) in
    omega arith

-- at key 0 all levels are new
pub all_new : (bits : ℕ) → bits ≤ 10 → new_levels bits 0 ≡ bits + 1
all_new bits tiny = omega (arith, trailing_of_zero 32)

-- above its new levels a key has the nodes of the key before
node_before : (bits y j : ℕ) → bits ≤ 10 → 0 < y → new_levels bits y ≤ j → j ≤ bits → node_of j y ≡ node_of j (y - 1)
node_before bits y j tiny pos new l = zeros_below 32 y j (omega arith) pos (omega arith)

-- and the key after a node of x at level k has there the nodes of x, which are above level k
pub node_kept : (bits x k j y : ℕ) → bits ≤ 10 → y ≡ first_key k (node_of k x + 1) → new_levels bits y ≤ j → j ≤ bits → (k < j) × (node_of j y ≡ node_of j x)
node_kept bits x k j y tiny e new l =
    let later = after_above x k in
    let before : node_of j y ≡ node_of j (y - 1) = node_before bits y j tiny (omega arith) new l in
    let own : node_of k (y - 1) ≡ node_of k x = within_node x (y - 1) k (omega arith) (omega arith) in
    let next : node_of k y ≡ node_of k x + 1 = ap (node_of k) e ∙ shl-shr (node_of k x + 1) k in
    ⊎_elim
    (λ (up : k < j). (up, before ∙ same_above (y - 1) x k j (omega arith) own))
    (λ (down : j ≤ k). absurd (omega (arith, same_above y (y - 1) j k down before)))
    (cases_lt k j)
