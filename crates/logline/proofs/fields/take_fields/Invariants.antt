use Rattle.std.proofs.Common.{◌≡◌, length}
use Rattle.logline.proofs.Walking.{Taking}
use Rattle.logline.proofs.fields.take_fields.Given as goal

-- as many fields are taken as names are passed, and the rest decides the whole
abbrev pub invariant-loop-name : goal.invariant-loop-name
invariant-loop-name l = record { count : length l.list.items ≡ l.name-index; taking : Taking l.line l.start l.word l.name-index l.list.items l.rest }
