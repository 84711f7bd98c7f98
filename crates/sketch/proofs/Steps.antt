-- The columns of successive nodes follow from one another.
use Rattle.std.proofs.Common.{◌≡◌, ℕ, zero, suc, ◌+◌, ◌-◌, ◌*◌, ◌/◌, ◌%◌, ◌^◌, ◌<◌, ◌≤◌, min, cond, eqb, List, get_or, sym, refl, ap, ◌∙◌, subst, ⊎_elim, add-one, arith}
use lib.Bits.{bit_xor, xor_zero_l, xor_self, xor_comm, xor_assoc}
use lib.Count.{count_trailing_zeros}
use Rattle.std.proofs.lemmas.Bool.{cases_order, cases_eq}
use Rattle.std.proofs.lemmas.Nat.{shr_le}
use Rattle.sketch.specs.Layout.{Shape, mixed, run, column}
use Rattle.sketch.proofs.Words.{mixed_more_yes, mixed_more_no}
use Rattle.sketch.proofs.Trailing.{zeros_below, bit_below, bit_after, few_zeros}

-- what is mixed in twice is gone
mixed_twice : (a r w : ℕ) → bit_xor (bit_xor a w) (bit_xor r w) ≡ bit_xor a r
mixed_twice a r w =
    xor_assoc a w (bit_xor r w) ∙ ap (bit_xor a) (ap (bit_xor w) (xor_comm r w) ∙ sym (xor_assoc w w r) ∙ ap (λ n. bit_xor n r) (xor_self w) ∙ xor_zero_l r)

mixed_in_turn : (a r c : ℕ) → bit_xor (bit_xor a r) c ≡ bit_xor (bit_xor a c) r
mixed_in_turn a r c = xor_assoc a r c ∙ ap (bit_xor a) (xor_comm r c) ∙ sym (xor_assoc a c r)

-- node 0 has column 0
pub mixed_none : (words : List ℕ) (p n : ℕ) → mixed words p n 0 ≡ 0
mixed_none words p zero = refl
mixed_none words p (suc n) = ap (λ m. mixed words p m 0) (sym (add-one n)) ∙ mixed_more_no words p n 0 (λ e. omega (arith, shr_le 0 n)) ∙ mixed_none words p n

pub run_more : (words : List ℕ) (p n : ℕ) → run words p (n + 1) ≡ bit_xor (run words p n) (get_or words (p + n) 0)
run_more words p n = ap (run words p) (add-one n)

mixed_more : (words : List ℕ) (p n i : ℕ) → mixed words p (n + 1) i ≡ bit_xor (mixed words p n i) (cond (eqb (i / 2 ^ n % 2) 1) (get_or words (p + n) 0) 0)
mixed_more words p n i = ap (λ m. mixed words p m i) (add-one n)

module _ (words : List ℕ) (p y : ℕ) (pos : 0 < y) where
  -- among n words a number differs from the one before it by those up to the bit after its zeros
  abbrev Differs : ℕ → Type 0
  Differs n = mixed words p n y ≡ bit_xor (mixed words p n (y - 1)) (run words p (min n (count_trailing_zeros 32 y + 1)))

  -- a word at one of its zeros
  differs_below : (n : ℕ) → n < count_trailing_zeros 32 y → Differs n → Differs (n + 1)
  differs_below n l so_far =
      let w : ℕ = get_or words (p + n) 0 in
      let bits = bit_below 32 y n pos l in
      let here : min n (count_trailing_zeros 32 y + 1) ≡ n = omega arith in
      let next : n + 1 ≡ min (n + 1) (count_trailing_zeros 32 y + 1) = omega arith in
      mixed_more_no words p n y (λ e. omega (arith, bits.0))
      ∙ so_far
      ∙ ap (λ k. bit_xor (mixed words p n (y - 1)) (run words p k)) here
      ∙ sym (mixed_twice (mixed words p n (y - 1)) (run words p n) w)
      ∙ ap (λ m. bit_xor m (bit_xor (run words p n) w)) (sym (mixed_more_yes words p n (y - 1) bits.1))
      ∙ ap (bit_xor (mixed words p (n + 1) (y - 1))) (sym (run_more words p n) ∙ ap (run words p) next)

  -- the word at the bit after them
  differs_after : (n : ℕ) → n < 32 → n ≡ count_trailing_zeros 32 y → Differs n → Differs (n + 1)
  differs_after n small at so_far =
      let w : ℕ = get_or words (p + n) 0 in
      let bits = bit_after 32 y n small pos at in
      let here : min n (count_trailing_zeros 32 y + 1) ≡ n = omega arith in
      let next : n + 1 ≡ min (n + 1) (count_trailing_zeros 32 y + 1) = omega arith in
      mixed_more_yes words p n y bits.0
      ∙ ap (λ m. bit_xor m w) (so_far ∙ ap (λ k. bit_xor (mixed words p n (y - 1)) (run words p k)) here)
      ∙ xor_assoc (mixed words p n (y - 1)) (run words p n) w
      ∙ ap (λ m. bit_xor m (bit_xor (run words p n) w)) (sym (mixed_more_no words p n (y - 1) (λ e. omega (arith, bits.1))))
      ∙ ap (bit_xor (mixed words p (n + 1) (y - 1))) (sym (run_more words p n) ∙ ap (run words p) next)

  -- a word above it is mixed into both or into neither
  differs_above : (n : ℕ) → n < 32 → count_trailing_zeros 32 y < n → Differs n → Differs (n + 1)
  differs_above n small l so_far =
      let c : ℕ = cond (eqb ((y - 1) / 2 ^ n % 2) 1) (get_or words (p + n) 0) 0 in
      let all : min n (count_trailing_zeros 32 y + 1) ≡ min (n + 1) (count_trailing_zeros 32 y + 1) = omega arith in
      mixed_more words p n y
      ∙ ap (λ i. bit_xor (mixed words p n y) (cond (eqb (i % 2) 1) (get_or words (p + n) 0) 0)) (zeros_below 32 y n (omega arith) pos l)
      ∙ ap (λ m. bit_xor m c) (so_far ∙ ap (λ k. bit_xor (mixed words p n (y - 1)) (run words p k)) all)
      ∙ mixed_in_turn (mixed words p n (y - 1)) (run words p (min (n + 1) (count_trailing_zeros 32 y + 1))) c
      ∙ ap (λ m. bit_xor m (run words p (min (n + 1) (count_trailing_zeros 32 y + 1)))) (sym (mixed_more words p n (y - 1)))

  differs : (n : ℕ) → n ≤ 32 → Differs n
  differs zero l = sym (ap (λ k. bit_xor 0 (run words p k)) (let none : min 0 (count_trailing_zeros 32 y + 1) ≡ 0 = omega arith in none))
  differs (suc n) l =
      let so_far : Differs n = differs n (omega arith) in
      subst Differs (add-one n)
      (⊎_elim
      (λ (at : n ≡ count_trailing_zeros 32 y). differs_after n (omega arith) at so_far)
      (⊎_elim
      (λ (below : n < count_trailing_zeros 32 y). differs_below n below so_far)
      (λ (above : count_trailing_zeros 32 y < n). differs_above n (omega arith) above so_far))
      (cases_order n (count_trailing_zeros 32 y)))

-- the column of a node is that of the node before it with a run of the row's words
pub column_next : (s : Shape) (k r y : ℕ) → s.bits ≤ 10 → 0 < y → y < 2 ^ s.bits → column s k r y ≡ bit_xor (column s k r (y - 1)) (run s.words ((k * s.rows + r) * s.bits) (count_trailing_zeros 32 y + 1))
column_next s k r y tiny pos within =
    let whole : min s.bits (count_trailing_zeros 32 y + 1) ≡ count_trailing_zeros 32 y + 1 = omega (arith, few_zeros 32 y s.bits pos within) in
    differs s.words ((k * s.rows + r) * s.bits) y pos s.bits (omega arith) ∙ ap (λ n. bit_xor (column s k r (y - 1)) (run s.words ((k * s.rows + r) * s.bits) n)) whole

-- the next column, of a node of the level, with the runs of the row
pub column_followed : (s : Shape) (k r y before next : ℕ) (runs : List ℕ) → s.bits ≤ 10 → y < 2 ^ s.bits
    → ((b : ℕ) → b < s.bits → get_or runs b 0 ≡ run s.words ((k * s.rows + r) * s.bits) (b + 1))
    → before ≡ column s k r (y - 1) → (y ≡ 0 → next ≡ 0) → (0 < y → next ≡ bit_xor before (get_or runs (count_trailing_zeros 32 y) 0)) → next ≡ column s k r y
column_followed s k r y before next runs tiny within running e first later =
    ⊎_elim
    (λ (none : y ≡ 0). first none ∙ sym (mixed_none s.words ((k * s.rows + r) * s.bits) s.bits) ∙ ap (column s k r) (sym none))
    (λ (some : y ≡ 0 → ⊥).
    let pos : 0 < y = omega arith in
    let low = few_zeros 32 y s.bits pos within in
    later pos ∙ ap (λ n. bit_xor n (get_or runs (count_trailing_zeros 32 y) 0)) e ∙ ap (bit_xor (column s k r (y - 1))) (running (count_trailing_zeros 32 y) low) ∙ sym (column_next s k r y tiny pos within))
    (cases_eq y 0)
