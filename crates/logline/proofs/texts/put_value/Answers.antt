use Rattle.std.proofs.Common.{◌≡◌, rules}
use Rattle.std.proofs.ByRecursion.{All-get_or}
use Rattle.logline.specs.Pieces.{NoBlank}
use Rattle.logline.proofs.texts.put_value.Goals as goal

pub returns-then-contains : goal.returns-then-contains
returns-then-contains c =
    let blank : NoBlank c.in-Serial.serial.now → ⊥ = λ clear. let h = c.if-contains.ensures.cases in All-get_or (λ b. b ≡ 32 → ⊥) c.in-Serial.serial.now h.0 0 h.1 clear (search rules) in
    search rules
