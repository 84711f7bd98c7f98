use Rattle.std.proofs.Common.{leb, rules, tests}
use Rattle.std.proofs.lemmas.Iterator.{YieldsList-from_slice}
use Rattle.std.proofs.lemmas.Iterator.Search.{position_from_yields_List}
use Rattle.board.proofs.Registers.{wide_told}
use Rattle.board.proofs.opens.first_wide.Goals as goal

pub returns : goal.returns
returns c =
    let found = position_from_yields_List (leb c.args.width) _ _ c.position.result c.position.ensures.ran (YieldsList-from_slice c.args.words.now c.iter.ensures.rest) (λ x b q k. search (rules, tests)) in
    record { first = wide_told c.args.width c.args.words.now c.position.result found }
