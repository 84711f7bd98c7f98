use Rattle.std.proofs.Common.{◌≡◌, length, MatchOption, sym, ◌∙◌, subst, rules, tests}
use Rattle.std.proofs.lemmas.Iterator.{YieldsList-from_slice}
use Rattle.std.proofs.lemmas.Iterator.Search.{position_from_yields_List}
use Rattle.daybook.specs.Book.{same_bytes, key_in}
use Rattle.board.specs.Serials.{serials, IsKey}
use Rattle.board.proofs.Registers.{key_told}
use Rattle.board.proofs.records.Enrolled.key_of.Goals as goal

pub returns-in_err-key : goal.returns-in_err-key
returns-in_err-key c =
    let found = position_from_yields_List (λ r. same_bytes r.serial c.args.sought.now.serial) _ _ c.position.result c.position.ensures.ran (YieldsList-from_slice c.args.self.now.records.now c.iter.ensures.rest) (λ x b q k. search (rules, tests)) in
    let told = key_told c.args.self.now.records.now c.args.sought.now.serial c.position.result found in
    record { key = subst (λ o. MatchOption o (key_in (serials c.args.self.now.records.now) c.args.sought.now.serial ≡ length c.args.self.now.records.now) (IsKey (serials c.args.self.now.records.now) c.args.sought.now.serial)) (c.in_err-key.was ∙ sym c.from_residual.ensures) told }

pub returns : goal.returns
returns c =
    let found = position_from_yields_List (λ r. same_bytes r.serial c.args.sought.now.serial) _ _ c.position.result c.position.ensures.ran (YieldsList-from_slice c.args.self.now.records.now c.iter.ensures.rest) (λ x b q k. search (rules, tests)) in
    let told = key_told c.args.self.now.records.now c.args.sought.now.serial c.position.result found in
    record { key = subst (λ o. MatchOption o (key_in (serials c.args.self.now.records.now) c.args.sought.now.serial ≡ length c.args.self.now.records.now) (IsKey (serials c.args.self.now.records.now) c.args.sought.now.serial)) (c.in_ok-key.was) told }
