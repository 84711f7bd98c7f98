-- Runs of calls begin at a newly opened board.
use Rattle.std.proofs.Common.{◌≡◌, ℕ, ◌+◌, ◌*◌, ◌^◌, ◌<◌, ◌≤◌, Bool, true, false, not, ◌&&◌, eqb, ltb, leb, List, [], ◌∷◌, length, get_or, None, refl, mul-le-mul, arith}
use Rattle.std.proofs.lemmas.Nat.{pow_pos}
use Rattle.std.proofs.lemmas.Bool.{and_parts, leb-true, eqb-true, ltb-false}
use Rattle.std.proofs.lemmas.Bool.Decides.{nat_tests}
use Rattle.window.specs.Causes.{first_cause, Admitted}
use Rattle.window.specs.Meaning.{Model, Fresh}
use Rattle.sketch.specs.Layout.{Shape, shape_of, cell_number, place}
use Rattle.sketch.specs.Laws.{Faithful}
use Rattle.sketch.proofs.Cells.{place_below}
use Rattle.sketch.specs.declared.shape.Sketch.{Sketch}
use Rattle.board.specs.declared.openings.Dimensions.{Dimensions}
use Rattle.board.specs.Opening.{Fits, SketchOf, in_range, is_sized, first_wide, open_causes}
use Rattle.board.proofs.Opened.{narrow_words}

-- three tests that all pass
none_of : (p q r : Bool) (x y z : ℕ × List ℕ) → first_cause ((x, not p) ∷ ((y, not q) ∷ ((z, r) ∷ []))) ≡ None → (p ≡ true) × (q ≡ true) × (r ≡ false)
none_of true true false x y z e = (refl, refl, refl)
none_of true true true x y z e = let n : ◌≡◌ {A = ℕ} 0 1 = cc in absurd (omega arith)
none_of true false r x y z e = let n : ◌≡◌ {A = ℕ} 0 1 = cc in absurd (omega arith)
none_of false q r x y z e = let n : ◌≡◌ {A = ℕ} 0 1 = cc in absurd (omega arith)

module _ (a : Dimensions) (words : List ℕ) (cells records : ℕ) (admitted : Admitted (open_causes a words cells records)) where
  tests : (in_range a ≡ true) × (is_sized a (length words) cells records ≡ true) × (ltb (first_wide (2 ^ a.spread) words) (length words) ≡ false)
  tests = none_of (in_range a) (is_sized a (length words) cells records) (ltb (first_wide (2 ^ a.spread) words) (length words)) (2, []) (3, []) (4, first_wide (2 ^ a.spread) words ∷ []) admitted

  pub sized : (cells ≡ (a.bits + 1) * a.rows * 2 ^ a.spread) × (2 ^ a.bits ≤ records) × (length words ≡ (a.bits + 1) * a.rows * a.bits)
  sized =
      let one = and_parts (eqb (length words) ((a.bits + 1) * a.rows * a.bits)) (eqb cells ((a.bits + 1) * a.rows * 2 ^ a.spread) && leb (2 ^ a.bits) records) tests.1 in
      let two = and_parts (eqb cells ((a.bits + 1) * a.rows * 2 ^ a.spread)) (leb (2 ^ a.bits) records) one.1 in
      (eqb-true cells ((a.bits + 1) * a.rows * 2 ^ a.spread) two.0, leb-true (2 ^ a.bits) records two.1, eqb-true (length words) ((a.bits + 1) * a.rows * a.bits) one.0)

  pub fits : Fits a words
  fits =
      let ranged : in_range a ≡ true = tests.0 in
      let bits : a.bits ≤ 10 = grind (arith, nat_tests) in
      let rows : a.rows ≤ 4 = grind (arith, nat_tests) in
      let more : a.bits + 1 ≤ 11 = omega arith in
      let levels : (a.bits + 1) * a.rows ≤ 11 * 4 = mul-le-mul more rows in
      let all : (a.bits + 1) * a.rows * a.bits ≤ 11 * 4 * 10 = mul-le-mul levels bits in
      record {
        some_window = grind (arith, nat_tests);
        some_fineness = grind (arith, nat_tests);
        fineness = grind (arith, nat_tests);
        bits = bits;
        some_row = grind (arith, nat_tests);
        rows = rows;
        spread = grind (arith, nat_tests);
        few = omega (arith, sized.2, all);
        narrow = narrow_words (2 ^ a.spread) words (pow_pos a.spread) (ltb-false (first_wide (2 ^ a.spread) words) (length words) tests.2);
      }

-- the cells that were asked for are those of the sketch
pub same_number : (a : Dimensions) (words : List ℕ) (s : Sketch) → SketchOf a words s → cell_number (shape_of s) ≡ (a.bits + 1) * a.rows * 2 ^ a.spread
same_number a words s made = let b = made.bits in let r = made.rows in let p = made.spread in cc

-- new cells stand for no play
pub fresh_faithful : {C : Type 0} (m : Model C) (s : Shape) (cells : List C) (w f : ℕ) → length cells ≡ cell_number s → s.window ≡ w → s.fineness ≡ f → 0 < w → 0 < f → f ≤ 6
    → ((k : ℕ) (d : C) → k < length cells → Fresh m w f (get_or cells k d)) → Faithful m s cells []
fresh_faithful m s cells w f many ew ef some-w some-f most-f fresh d k r col kb rb cb =
    let at = fresh (place s k r col) d (omega (arith, many, place_below s k r col kb rb cb)) in
    record { stands = at.stands_for_empty; window = omega (arith, at.window, ew); fineness = omega (arith, at.fineness, ef) }
