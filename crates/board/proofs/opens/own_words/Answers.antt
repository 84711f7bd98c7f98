use Rattle.board.proofs.Opened.{own_copy}
use Rattle.board.proofs.opens.own_words.Goals as goal

pub returns : goal.returns
returns c = record { copied = own_copy c.copy_from_slice.new.self c.args.words.now c.copy_from_slice.ensures.after }
