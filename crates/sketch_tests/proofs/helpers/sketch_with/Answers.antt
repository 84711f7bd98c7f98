-- Words that are columns at first, and after each one that is put in.
use Rattle.std.proofs.Common.{◌≡◌, ℕ, zero, suc, ◌*◌, ◌%◌, ◌^◌, ◌<◌, ◌≤◌, List, length, get_or, set, replicate, sym, refl, subst, inl, inr, mod-lt, arith, length-set, get_or-set_other, get_or-set_same, pow_pos, pow_mono}
use Rattle.std.proofs.lemmas.Bool.{cases_eq}
use Rattle.sketch_tests.proofs.helpers.sketch_with.Goals as goal
use Rattle.sketch_tests.proofs.helpers.sketch_with.Goals.{then-p-lt440, else-p-lt440}

getD_zeros : (n q : ℕ) → ◌≡◌ {A = ℕ} (get_or (replicate n 0) q 0) 0
getD_zeros zero q = refl
getD_zeros (suc n) zero = refl
getD_zeros (suc n) (suc q) = getD_zeros n q

-- the rest by a width is a column
rest_fits : (seed spread : ℕ) → spread ≤ 8 → seed % (1 * 2 ^ spread % 65536) < 2 ^ spread
rest_fits seed spread h =
    let some : 0 < 2 ^ spread = pow_pos spread in
    let most : 2 ^ spread ≤ 256 = pow_mono h in
    let width_is : 1 * 2 ^ spread % 65536 ≡ 2 ^ spread = omega arith in rw width_is (mod-lt seed some)

put_fits :
    (xs : List ℕ) (i w bound : ℕ) → i < length xs → w < bound → ((q : ℕ) → get_or xs q 0 < bound) → (q : ℕ) → get_or (set xs i w) q 0 < bound
put_fits xs i w bound within fits all q =
    elim (cases_eq q i) [
      | inl same ↦
          let put = get_or-set_same xs i w 0 within in let read : get_or (set xs i w) q 0 ≡ w = cc in omega arith
      | inr other ↦ rw get_or-set_other (all q)
    ]

pub loop-p-init : goal.loop-p-init
loop-p-init c = (refl, λ q. subst (λ (x : ℕ). x < 2 ^ c.args.spread) (sym (getD_zeros 440 q)) (pow_pos c.args.spread))

pub loop-p-preserved : goal.loop-p-preserved
loop-p-preserved c =
    elim c.if-p-lt440.branch [
      | then-p-lt440 w ↦
          let within : c.loop-p.p < length c.loop-p.words = omega arith in
          simp w.words-is (
            simp length-set c.loop-p.invariant.0,
            put_fits c.loop-p.words c.loop-p.p _ _ within (rest_fits _ c.args.spread c.requires.spread) c.loop-p.invariant.1,
          )
      | else-p-lt440 w ↦ simp w.words-is c.loop-p.invariant
    ]
