-- Cells by level, row and column: where they stand, and what one of them answers.
use Rattle.std.proofs.Common.{◌≡◌, ℕ, ◌+◌, ◌*◌, ◌/◌, ◌%◌, ◌<◌, ◌≤◌, sym, ap, ◌∙◌, arith}
use Rattle.std.proofs.lemmas.Nat.{pow_pos, div-mul-add, mod-mul-add, mul-add-lt}
use Rattle.sketch.specs.declared.shape.Sketch.{Sketch}
use Rattle.sketch.specs.Layout.{Shape, Sound, shape_of, width, cell_number, place}

-- every sketch has a sound shape
pub sound_of : (s : Sketch) → Sound (shape_of s)
sound_of s = record { some_row = s.some_row; words_fit = s.words_fit }

-- a cell of a level, row and column is one of the cells
pub place_below : (s : Shape) (k r col : ℕ) → k ≤ s.bits → r < s.rows → col < width s → place s k r col < cell_number s
place_below s k r col kb rb cb =
    let q : k * s.rows + r < (s.bits + 1) * s.rows = omega (arith, mul-add-lt k s.rows r (s.bits + 1) (omega arith) rb) in
    omega (arith, mul-add-lt (k * s.rows + r) (width s) col ((s.bits + 1) * s.rows) q cb)

-- there is a cell
pub some_cells : (s : Shape) → Sound s → 0 < cell_number s
some_cells s sound = omega (arith, place_below s 0 0 0 (omega arith) sound.some_row (pow_pos s.spread))

-- a row and a column are read off the place
pub place_same : (w q col q' col' : ℕ) → col < w → col' < w → q * w + col ≡ q' * w + col' → (q ≡ q') × (col ≡ col')
place_same w q col q' col' l l' e =
    (sym (div-mul-add q w col l) ∙ ap (λ p. p / w) e ∙ div-mul-add q' w col' l', sym (mod-mul-add q w col l) ∙ ap (λ p. p % w) e ∙ mod-mul-add q' w col' l')
