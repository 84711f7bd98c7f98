use Rattle.std.proofs.Common.{sym, ◌∙◌, rules, tests, arith}
use Rattle.std.proofs.lemmas.Iterator.{YieldsList-from_slice}
use Rattle.std.proofs.lemmas.Iterator.Search.{all_from_yields_List}
use Rattle.board.specs.Serials.{is_serial_byte}
use Rattle.board.proofs.Registers.{record_read}
use Rattle.board.proofs.records.record_of.Goals as goal

pub returns : goal.returns
returns c =
    let bytes = c.args.bytes.now in
    let all = all_from_yields_List is_serial_byte _ _ c.all.result c.all.ensures.ran (YieldsList-from_slice bytes c.iter.ensures.rest) (λ x b q k. search (rules, tests)) in
    record { read = record_read bytes c.copy_from_slice.new.self c.copy_from_slice.ensures.after (omega arith) (sym all ∙ c.if-not-all.false) }
