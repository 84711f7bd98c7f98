use Rattle.std.proofs.Common.{◌≡◌, ◌<◌, length, get_or, map, rules, subst, ap}
use Rattle.logline.specs.declared.forms.Shape.TheVariants.{Letter}
use Rattle.logline.specs.Fields.{content_of}
use Rattle.logline.specs.Steps.{StandsAt}
use Rattle.logline.proofs.Rebuilding.{stands, stands_alone, no_letter}
use Rattle.logline.proofs.events.kind_at.Goals as goal

pub returns-in_default : goal.returns-in_default
returns-in_default c =
    let field = c.in_ok-kind.field-0.now in
    let lt : c.args.i < length c.args.list.now = search rules in
    let is : field ≡ get_or c.args.list.now c.args.i field = search rules in
    record { held = stands_alone Letter c.args.list.now c.args.i field lt is (no_letter field c.in_default.not-Letter) }

pub returns : goal.returns
returns c =
    let field = c.in_ok-kind.field-0.now in
    let lt : c.args.i < length c.args.list.now = search rules in
    let is : field ≡ get_or c.args.list.now c.args.i field = search rules in
    record { held = subst (StandsAt (map content_of c.args.list.now) c.args.i) (ap content_of c.in-Letter.is) (stands c.args.list.now c.args.i field lt is) }
