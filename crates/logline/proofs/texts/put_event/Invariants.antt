use Rattle.std.proofs.Common.{length}
use Rattle.logline.specs.Events.{said}
use Rattle.logline.proofs.Putting.{Fronts}
use Rattle.logline.proofs.texts.put_event.Given as goal

-- what is put so far is the front of the line
abbrev pub invariant-loop-name : goal.invariant-loop-name
invariant-loop-name l = Fronts (said l.event) (length l.yielded) l.line.items
