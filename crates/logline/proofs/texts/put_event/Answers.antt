use Rattle.std.proofs.Common.{length, map, sym, refl, ap, ◌∙◌, subst, arith, rules}
use Rattle.std.proofs.lemmas.Slice.Zip.{zip_turn, zip_end}
use Rattle.std.proofs.lemmas.List.{length_push, length-map}
use Rattle.logline.specs.Forms.{names}
use Rattle.logline.specs.Events.{said}
use Rattle.logline.specs.Steps.{value_content}
use Rattle.logline.proofs.Putting.{Fronts, fronts_more, fronts_stop, fronts_end, few_contents, next_field}
use Rattle.logline.proofs.texts.put_event.Goals as goal

pub loop-name-preserved : goal.loop-name-preserved
loop-name-preserved c =
    let e = c.args.event.now in
    let t = zip_turn c.names.result.now c.as_slice.result.now c.loop-name.yielded c.into_iter-name-iterator.result c.loop-name.name-iterator c.next.new.self _ (search rules) (search rules) c.loop-name.yielded_by _ c.in-Some.is c.next.ensures.steps in
    let next = next_field c.names.result.now (names (said e).word) c.as_slice.result.now (said e).contents (length c.loop-name.yielded) c.in-Some.name.now c.in-Some.value.now (c.names.ensures.listed ∙ ap names c.word-word.ensures.told) (ap (map value_content) c.as_slice.ensures.value ∙ c.list_values.ensures.held) t.0 t.1 t.2 t.3 in
    let more = fronts_more e (length c.loop-name.yielded) c.loop-name.line.items c.loop-name.invariant c.in-Some.name.now (value_content c.in-Some.value.now) next.0 next.1 c.put_field.new.line.items c.in_ok-put_field.ensures.put in
    subst (λ k. Fronts (said e) k c.put_field.new.line.items) (sym (length_push c.loop-name.yielded _)) more

pub returns-in_err-put_field : goal.returns-in_err-put_field
returns-in_err-put_field c =
    let e = c.args.event.now in
    let t = zip_turn c.names.result.now c.as_slice.result.now c.loop-name.yielded c.into_iter-name-iterator.result c.loop-name.name-iterator c.next.new.self _ (search rules) (search rules) c.loop-name.yielded_by _ c.in-Some.is c.next.ensures.steps in
    let next = next_field c.names.result.now (names (said e).word) c.as_slice.result.now (said e).contents (length c.loop-name.yielded) c.in-Some.name.now c.in-Some.value.now (c.names.ensures.listed ∙ ap names c.word-word.ensures.told) (ap (map value_content) c.as_slice.ensures.value ∙ c.list_values.ensures.held) t.0 t.1 t.2 t.3 in
    let stops = (fronts_stop e (length c.loop-name.yielded) c.loop-name.line.items c.loop-name.invariant c.in-Some.name.now (value_content c.in-Some.value.now) next.0 next.1 c.put_field.new.line.items c.in_err-put_field.field-0.0 c.in_err-put_field.ensures.put) in
    search rules

pub returns : goal.returns
returns c =
    let e = c.args.event.now in
    let t = zip_end c.names.result.now c.as_slice.result.now c.loop-name.yielded c.into_iter-name-iterator.result c.loop-name.name-iterator c.next.new.self _ (search rules) (search rules) c.loop-name.yielded_by c.in-None.is c.next.ensures.steps in
    let few = few_contents e in
    let many = ap length (c.names.ensures.listed ∙ ap names c.word-word.ensures.told) in
    let values = ap length (ap (map value_content) c.as_slice.ensures.value ∙ c.list_values.ensures.held) in
    record { put = fronts_end e (length c.loop-name.yielded) c.loop-name.line.items c.loop-name.invariant c.loop-name.line refl (omega (arith, length-map c.as_slice.result.now value_content)) }
