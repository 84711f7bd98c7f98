-- A serial that is enrolled anew, and the register then.
use Rattle.std.proofs.Common.{◌≡◌, ℕ, ◌+◌, ◌<◌, ◌≤◌, List, [], ◌∷◌, ◌++◌, map, length, get_or, take, set, ap, ◌∙◌, arith}
use lib.Seq.{take-set-le}
use Rattle.std.proofs.lemmas.List.{map_push, take_more, get_or-set_same, length-set}
use Rattle.std.proofs.lemmas.Bool.Decides.{nat_tests}
use Rattle.window.specs.Causes.{Admitted}
use Rattle.sketch.specs.Layout.{shape_of, keys}
use Rattle.board.specs.declared.held.Board.{Board}
use Rattle.board.specs.declared.records.Record.{Record}
use Rattle.board.specs.Serials.{serials_of}
use Rattle.board.specs.Causes.{enrol_causes}

-- a record put after the enrolled ones is enrolled
pub serials_more : (n : ℕ) (records : List Record) (bytes : List ℕ) → n < length records → serials_of (n + 1) (set records n (record { serial = bytes })) ≡ serials_of n records ++ bytes ∷ []
serials_more n records bytes h =
    let new : Record = record { serial = bytes } in
    let more = take_more (set records n new) n new (omega (arith, length-set records n new)) in
    let front = take-set-le n records n new (omega arith) in
    let at = get_or-set_same records n new new h in
    ap (map (λ (r : Record). r.serial)) (more ∙ ap (λ l. l ++ get_or (set records n new) n new ∷ []) front ∙ ap (λ r. take n records ++ r ∷ []) at) ∙ map_push (λ (r : Record). r.serial) (take n records) new

-- fewer than the keys are enrolled where a serial may be, and the register has a record for each key
pub key_left : (b : Board) (cells : ℕ) (records : List Record) (bytes : List ℕ) → Admitted (enrol_causes b cells records bytes) → (b.enrolled < keys (shape_of b.sketch)) × (keys (shape_of b.sketch) ≤ length records)
key_left b cells records bytes a = (grind (arith, nat_tests), grind (arith, nat_tests))
