use Rattle.std.proofs.Common.{get_or, ◌-◌, rules, ◌≤◌, length, sym, ap, subst, arith, refl}
use Rattle.logline.specs.declared.forms.Name.TheVariants.{Cab}
use Rattle.logline.specs.Forms.{names, required}
use Rattle.logline.specs.Refusals.{Departs}
use Rattle.logline.specs.Steps.{ReadFrom, rest_pieces, rest_place}
use Rattle.logline.proofs.Walking.{Taking, walk_more, walk_surplus, walk_filled, walk_parts, next_name}
use Rattle.logline.proofs.fields.take_fields.Goals as goal
use Rattle.logline.proofs.fields.take_fields.Goals.{else-loop-name-test, then-loop-name-test+in_default}

pub loop-name-preserved : goal.loop-name-preserved
loop-name-preserved c =
    let w = subst (Taking c.args.line.now c.args.start c.args.word c.loop-name.name-index c.loop-name.list.items) c.in-Some.is c.loop-name.invariant.taking in
    let n = get_or c.names-name-items.result.now c.loop-name.name-index Cab in
    let next = next_name c.names-name-items.result.now (names c.args.word) c.loop-name.name-index c.loop-name.name-index Cab c.names-name-items.ensures.listed refl c.loop-name-test.true in
    let read : ReadFrom n (length c.args.line.now - length c.in-Some.bytes.now) c.first_piece.result.0.now c.in-Some-read.field = search rules in
    let more = walk_more c.in-Some.bytes w n c.first_piece.result.0.now c.first_piece.result.1 c.in-Some-read.field next c.first_piece.ensures.pieces c.first_piece.ensures.whole read in
    record { count = omega arith; taking = search rules }

pub returns-in-Some-rest : goal.returns-in-Some-rest
returns-in-Some-rest c =
    let w = subst (Taking c.args.line.now c.args.start c.args.word c.loop-name.name-index c.loop-name.list.items) c.in-Some-rest.is c.loop-name.invariant.taking in
    let end : length c.names-name-items.result.now ≤ c.loop-name.name-index =
    elim c.loop-name-test.branch [ else-loop-name-test v ↦ omega arith | then-loop-name-test+in_default v ↦ absurd (v.in_default.not-Some _ c.in-Some-rest.is) ] in
    record { taken = subst (Departs (rest_pieces c.args.start) (names c.args.word) (length (required c.args.word)) (rest_place c.args.line.now c.args.start) (length c.args.line.now)) (sym c.place_of.ensures.told) (walk_surplus c.in-Some-rest.bytes w (omega (arith, ap length c.names-name-items.ensures.listed))) }

pub returns : goal.returns
returns c =
    let w = subst (Taking c.args.line.now c.args.start c.args.word c.loop-name.name-index c.loop-name.list.items) c.in_default-rest.is c.loop-name.invariant.taking in
    let filled = walk_filled w (omega arith) in
    record { taken = (filled.0, filled.1, walk_parts w) }
