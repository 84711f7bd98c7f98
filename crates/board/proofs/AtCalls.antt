-- What one kind of call promises, said of the call that was served.
use Rattle.std.proofs.Common.{◌≡◌, List, Result, sym, subst}
use Rattle.window.specs.Meaning.{Model}
use Rattle.listing.specs.declared.Listed.{Listed}
use Rattle.board.specs.declared.held.Board.{Board}
use Rattle.board.specs.declared.records.Record.{Record}
use Rattle.board.specs.declared.faults.Fault.{Fault}
use Rattle.board.specs.declared.calls.Call.{Call}
use Rattle.board.specs.declared.calls.Answer.{Answer}
use Rattle.board.specs.Serving.{Served}

pub served_at : {C : Type 0} (m : Model C) (before after : Board) (cells told : List C) (records left : List Record) (places shown : List Listed) (given call : Call) → given ≡ call → (r : Result Answer Fault) → Served m before after cells told records left places shown call r → Served m before after cells told records left places shown given r
served_at m before after cells told records left places shown given call e r s = subst (λ k. Served m before after cells told records left places shown k r) (sym e) s
