use Rattle.std.proofs.Common.{rules, tests, arith, ◌^◌, ◌≤◌, length}
use Rattle.std.proofs.lemmas.Iterator.{YieldsList-from_slice}
use Rattle.std.proofs.lemmas.Iterator.Adapters.{fits_from_length, at_most_from_yields_List}
use Rattle.window.proofs.stamps.live_among.Goals as goal

-- each stamp adds 1 at most
pub sum-requires-clause-fits : goal.sum-requires-clause-fits
sum-requires-clause-fits c =
    let few : length c.args.stamps.now ≤ 4294967295 = omega arith in
    fits_from_length _ _ 4294967295 (2 ^ 32) (at_most_from_yields_List (YieldsList-from_slice c.args.stamps.now cc) few) c.map.ensures.closure (omega arith) (λ x r q k. search (rules, tests))
