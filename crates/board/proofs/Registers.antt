-- Serial bytes, and the key of a serial among records.
use Rattle.std.proofs.Common.{◌≡◌, ℕ, ◌+◌, ◌<◌, ◌≤◌, Bool, true, cond, not, leb, List, [], length, get_or, take, Some, None, Option, MatchOption, Decides, sym, refl, ap, ◌∙◌, subst, subst₂, ⊎_elim, ltb, rules, arith}
use Rattle.std.proofs.lemmas.Slice.Eq.{compares_Decides}
use Rattle.std.proofs.lemmas.Bool.Decides.{same_from_decides, nat_tests}
use Rattle.std.specs.List.{position_or_len, list_all}
use Rattle.std.proofs.lemmas.List.Sums.{prefix_len-le-length}
use Rattle.std.proofs.lemmas.List.Recursion.{is_position_or_len}
use Rattle.std.proofs.lemmas.Bool.{cond-true, cond-false, lt-leb, le-leb, lt-ltb, le-ltb, cases_lt}
use Rattle.daybook.specs.Book.{Serial, same_bytes, key_in}
use Rattle.std.proofs.lemmas.List.{length-map, length-take, get_or-map, get_or-take}
use Rattle.board.specs.declared.records.Record.{Record}
use Rattle.board.specs.Serials.{is_serial_byte, is_serial, record_of, serials, serials_of, IsKey}
use Rattle.board.specs.Opening.{first_wide}

-- the key of a serial is the place of the first record that holds it
pub key_position : (rs : List Record) (s : Serial) → key_in (serials rs) s ≡ position_or_len (λ (r : Record). same_bytes r.serial s) rs
key_position rs s = is_position_or_len (λ (rs : List Record). key_in (serials rs) s) (λ (r : Record). same_bytes r.serial s) refl (λ _ _. refl) rs

-- where records are equal, their bytes are the same
pub same_record : (b : Bool) (x y : Record) → Decides b (x ≡ y) → b ≡ same_bytes x.serial y.serial
same_record b x y d =
    same_from_decides b (same_bytes x.serial y.serial) ((λ e. ap (λ (r : Record). r.serial) (d.0 e)), (λ e. d.1 (ap (λ s. record { serial = s }) e))) (compares_Decides same_bytes (search rules) x.serial y.serial)

-- a place that was sought: found, or past the last
pub place_told : (n many : ℕ) → n ≤ many → (r : Option ℕ) → r ≡ cond (ltb n many) (Some n) None → MatchOption r (n ≡ many) (λ k. (k ≡ n) × (k < many))
place_told n many within r e =
    ⊎_elim
    (λ (l : n < many). subst (λ o. MatchOption o (n ≡ many) (λ k. (k ≡ n) × (k < many))) (sym (e ∙ cond-true (ltb n many) (Some n) None (lt-ltb n many l))) (refl, l))
    (λ (l : many ≤ n). subst (λ o. MatchOption o (n ≡ many) (λ k. (k ≡ n) × (k < many))) (sym (e ∙ cond-false (ltb n many) (Some n) None (le-ltb n many l))) (omega arith))
    (cases_lt n many)

-- the words before the first that is no column stand before the place of that one
wide_position : (width : ℕ) (ws : List ℕ) → first_wide width ws ≡ position_or_len (leb width) ws
wide_position width ws =
    is_position_or_len (first_wide width) (leb width) refl
    (λ x xs.
    ⊎_elim
    (λ (l : x < width). cond-true (ltb x width) (1 + first_wide width xs) 0 (lt-ltb x width l) ∙ sym (cond-false (leb width x) 0 (1 + first_wide width xs) (lt-leb width x l)))
    (λ (l : width ≤ x). cond-false (ltb x width) (1 + first_wide width xs) 0 (le-ltb x width l) ∙ sym (cond-true (leb width x) 0 (1 + first_wide width xs) (le-leb width x l)))
    (cases_lt x width))
    ws

-- the first word that is no column, by its place
pub wide_told : (width : ℕ) (ws : List ℕ) (r : Option ℕ) → r ≡ cond (ltb (position_or_len (leb width) ws) (length ws)) (Some (position_or_len (leb width) ws)) None → MatchOption r (first_wide width ws ≡ length ws) (λ k. (k ≡ first_wide width ws) × (k < length ws))
wide_told width ws r e =
    subst (λ n. MatchOption r (n ≡ length ws) (λ k. (k ≡ n) × (k < length ws))) (sym (wide_position width ws)) (place_told (position_or_len (leb width) ws) (length ws) (prefix_len-le-length (λ x. not (leb width x)) ws) r e)

-- the key of a serial by the place of its record
pub key_told : (rs : List Record) (s : Serial) (r : Option ℕ) → r ≡ cond (ltb (position_or_len (λ (x : Record). same_bytes x.serial s) rs) (length rs)) (Some (position_or_len (λ (x : Record). same_bytes x.serial s) rs)) None → MatchOption r (key_in (serials rs) s ≡ length rs) (IsKey (serials rs) s)
key_told rs s r e =
    let many : length (serials rs) ≡ length rs = length-map rs (λ (r : Record). r.serial) in
    let told = place_told (position_or_len (λ (x : Record). same_bytes x.serial s) rs) (length rs) (prefix_len-le-length (λ (x : Record). not (same_bytes x.serial s)) rs) r e in
    subst₂ (λ n l. MatchOption r (n ≡ length rs) (λ k. (k ≡ n) × (k < l))) (sym (key_position rs s)) (sym many) told

-- the serial of a record is that of its place among the enrolled ones
pub serials_number : (enrolled : ℕ) (records : List Record) → enrolled ≤ length records → length (serials_of enrolled records) ≡ enrolled
serials_number enrolled records h = omega (arith, length-map (take enrolled records) (λ (r : Record). r.serial), length-take enrolled records)

pub serial_at : (enrolled : ℕ) (records : List Record) (i : ℕ) (r : Record) → i < enrolled → enrolled ≤ length records → get_or (serials_of enrolled records) i [] ≡ (get_or records i r).serial
serial_at enrolled records i r l h =
    get_or-map (λ r. r.serial) (take enrolled records) i r [] (omega (arith, length-take enrolled records)) ∙ ap (λ x. x.serial) (get_or-take enrolled records i r l)

-- bytes that are a serial, copied into a record
pub record_read : (bytes copied : List ℕ) → copied ≡ bytes → length bytes ≡ 16 → list_all is_serial_byte bytes ≡ true → Some (record { serial = copied }) ≡ record_of bytes
record_read bytes copied e many all =
    let serial : is_serial bytes ≡ true = grind (arith, nat_tests) in
    ap (λ s. Some (record { serial = s })) e ∙ sym (cond-true (is_serial bytes) (Some (record { serial = bytes })) None serial)
