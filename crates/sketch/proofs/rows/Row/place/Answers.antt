use Rattle.std.proofs.Common.{◌≡◌, ◌*◌, ◌%◌, ◌^◌, ◌≤◌, arith, pow_mono}
use Rattle.sketch.specs.Layout.{shape_of}
use Rattle.sketch.proofs.Cells.{place_below}
use Rattle.sketch.proofs.rows.Row.place.Goals as goal

pub returns-clause-within : goal.returns-clause-within
returns-clause-within c within =
    let row = c.args.self.now in
    let s = row.sketch.now in
    let few : 2 ^ s.spread ≤ 2 ^ 8 = pow_mono s.spread_range in
    let width : 1 * 2 ^ s.spread % 18446744073709551616 ≡ 2 ^ s.spread = omega arith in
    rw width (place_below (shape_of s) row.level row.row c.args.column row.level_within row.row_within within)
