-- What a count owes, from the rules that the counter keeps.
use Rattle.std.proofs.Common.{◌≡◌, ℕ, ◌<◌, ◌≤◌, ◌++◌, arith}
use Rattle.std.proofs.lemmas.Bool.Decides.{nat_tests}
use Rattle.window.specs.Causes.{Admitted}
use Rattle.window.specs.Meaning.{Model, Keeps, Permitted}
use Rattle.window.specs.Faults.{question_causes, turn_causes, room_causes, count_causes, most_taken, Estimate}

-- a question that no cause turns away is a permitted one
pub permitted : (last window t v : ℕ) → Admitted (question_causes last window t v) → Permitted last window t v
permitted last window t v a = record { in_time = grind (arith, nat_tests); some = grind (arith, nat_tests); within = grind (arith, nat_tests) }

-- and no cause turns a permitted question away
pub admitted_question : (last window t v : ℕ) → Permitted last window t v → Admitted (question_causes last window t v)
admitted_question last window t v p =
    let a : last ≤ t = p.in_time in
    let b : 0 < v = p.some in
    let c : v ≤ window = p.within in
    grind (arith, nat_tests)

-- a stamp that is in turn is not before the last one, and may be counted
pub in_turn : (last taken t : ℕ) → Admitted (turn_causes last taken t) → (last ≤ t) × (taken < most_taken)
in_turn last taken t a = (grind (arith, nat_tests), grind (arith, nat_tests))

-- a stamp that no cause turns away finds room besides
pub admitted_stamp : (last taken high limit t : ℕ) → Admitted (turn_causes last taken t ++ room_causes high limit) → (last ≤ t) × (taken < most_taken) × (high < limit)
admitted_stamp last taken high limit t a = (grind (arith, nat_tests), grind (arith, nat_tests), grind (arith, nat_tests))

-- the low and high of the meaning are an estimate
pub estimate : {C : Type 0} (m : Model C) → Keeps m → (c : C) (t v low high : ℕ) → Admitted (count_causes m c t v) → low ≡ m.low c t v → high ≡ m.high c t v → Estimate m c t v (low, high)
estimate m keeps c t v low high a l h =
    let p = permitted (m.last c) (m.window c) t v a in
    let between = keeps.count_lies_between c t v p in
    let near = keeps.estimates_near c t v p in
    let bounded = keeps.high_bounded c t v p in
    record {
      low = l;
      high = h;
      lies_between = λ xs s. (omega (arith, (between xs s).0), omega (arith, (between xs s).1));
      near = rw (l, h) near;
      bounded = omega arith;
    }
