-- Decimal text read byte by byte: the number grows, or no number has that text.
use Rattle.std.proofs.Common.{◌≡◌, ℕ, ◌+◌, ◌-◌, ◌*◌, ◌^◌, ◌<◌, ◌≤◌, List, length, get_or, drop, decimal, sym, ap, ◌∙◌, subst, ⊎_elim, arith}
use Rattle.std.specs.Str.Parse.{AllDigits, IsNumeral, digits_value}
use Rattle.std.specs.Int.{IsInRange}
use Rattle.std.proofs.str.Laws.{order}
use Rattle.std.proofs.str.Numerals.{SoFar, too_large, all_read}
use Rattle.std.proofs.lemmas.Str.{digit_value_digit}
use Rattle.std.proofs.lemmas.Str.Parse.{IsNumeralModel, numerals_by_value, tells_digits, digit_at}
use Rattle.std.proofs.lemmas.Fmt.{decimal-digits_value, decimal_digit, first_decimal, decimal_is_IsNumeral}

digits : IsNumeralModel (AllDigits 10) (digits_value 10)
digits = numerals_by_value _ tells_digits

-- a text of some number is a numeral of that value
numeral : (bs : List ℕ) (n : ℕ) → n < 2 ^ 32 → bs ≡ decimal n → IsNumeral 10 bs × (digits_value 10 bs ≤ 4294967295)
numeral bs n h e =
    let read = decimal_is_IsNumeral n (omega arith) in
    subst (λ l. IsNumeral 10 l × (digits_value 10 l ≤ 4294967295)) (sym e) (read.0, omega (arith, read.1))

pub no_number_empty : (bs : List ℕ) → length bs ≡ 0 → (n : ℕ) → n < 2 ^ 32 → bs ≡ decimal n → ⊥
no_number_empty bs none n h e = omega (arith, (numeral bs n h e).0.0)

pub no_number_zero : (bs : List ℕ) → 1 < length bs → get_or bs 0 0 ≡ 48 → (n : ℕ) → n < 2 ^ 32 → bs ≡ decimal n → ⊥
no_number_zero bs long zero n h e =
    let first : get_or (decimal n) 0 0 ≡ 48 = sym (ap (λ l. get_or l 0 0) e) ∙ zero in
    let some : 1 < length (decimal n) = subst (λ l. 1 < length l) e long in
    ⊎_elim
    (λ lt. omega (arith, first_decimal n lt (omega arith)))
    (λ le. let none : n ≡ 0 = omega arith in omega (arith, ap (λ m. length (decimal m)) none, ap length (decimal_digit 0 (omega arith))))
    (order 0 n)

module _ (bs : List ℕ) (i n : ℕ) (so_far : SoFar 10 bs (drop i bs) n) where
  pub no_number_on : i < length bs → (IsInRange 48 57 (get_or bs i 0) → n * 10 + (get_or bs i 0 - 48) < 2 ^ 32 → ⊥) → (k : ℕ) → k < 2 ^ 32 → bs ≡ decimal k → ⊥
  no_number_on lt stop k h e =
      let is = numeral bs k h e in
      let digit = digit_at bs i is.0.1 lt in
      let v = digit_value_digit (get_or bs i 0) digit in
      ⊎_elim (λ fits. stop digit fits) (λ large. too_large 10 bs bs i n so_far lt 4294967295 (omega arith) (omega arith) is) (order (n * 10 + (get_or bs i 0 - 48)) (2 ^ 32))

  pub number_read : length bs ≤ i → 0 < length bs → (get_or bs 0 0 ≡ 48 → 1 < length bs → ⊥) → n < 2 ^ 32 → bs ≡ decimal n
  number_read end some plain fits =
      let is = all_read 10 bs bs i n so_far 4294967295 end some (omega arith) in
      let one : get_or bs 0 0 ≡ 48 → length bs ≡ 1 = λ z. ⊎_elim (λ long. absurd (plain z long)) (λ short. omega arith) (order 1 (length bs)) in
      sym (ap decimal is.1 ∙ decimal-digits_value digits bs is.0.0.1 some one (omega (arith, is.0.1)))
