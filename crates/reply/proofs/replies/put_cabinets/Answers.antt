use Rattle.std.proofs.Common.{◌≡◌, ◌<◌, ℕ, List, [], map, length, get_or, sym, ap, ◌∙◌, subst, arith}
use Rattle.std.specs.List.{flat_map, AllByRecursion}
use Rattle.std.proofs.ByRecursion.{All-get_or}
use Rattle.std.proofs.lemmas.List.{take_all, get_or-map}
use Rattle.board.specs.declared.records.Record.{Record}
use Rattle.listing.specs.declared.Listed.{Listed}
use Rattle.reply.specs.Pieces.{line_text}
use Rattle.reply.specs.Replies.{cabinet_with, cabinet_line, cabinet_of}
use Rattle.reply.specs.Steps.{Writes}
use Rattle.reply.proofs.Putting.{writes_next, joined_map}
use Rattle.reply.proofs.replies.put_cabinets.Goals as goal

abbrev line_of : List Record → Listed → List ℕ
line_of register one = line_text (cabinet_line (cabinet_of register one))

-- the serial in the record is that of the key
line_known : (register : List Record) (listed : List Listed) → AllByRecursion (λ l. l.key < length register) listed → (i : ℕ) (d : Listed) (e : Record) → i < length listed → line_text (cabinet_line (cabinet_with (get_or register (get_or listed i d).key e).serial (get_or listed i d))) ≡ line_of register (get_or listed i d)
line_known register listed keys i d e lt =
    let key = All-get_or (λ l. l.key < length register) listed i d lt keys in
    ap (λ serial. line_text (cabinet_line (cabinet_with serial (get_or listed i d)))) (sym (get_or-map (λ r. r.serial) register (get_or listed i d).key e [] key))

pub loop-one-preserved : goal.loop-one-preserved
loop-one-preserved c =
    let register = c.args.register.now in
    let listed = c.args.listed.now in
    let i = c.loop-one.one-index in
    let here = subst (λ l. Writes c.loop-one.pen l c.put_cabinet.new.pen) (line_known register listed c.requires.known.keys i _ _ c.loop-one-test.true) c.put_cabinet.ensures.put in
    record {
      writes = writes_next (line_of register) listed i _ c.loop-one-test.true c.args.pen.now c.loop-one.pen c.put_cabinet.new.pen c.loop-one.invariant.writes here;
      room = omega (arith, c.loop-one.invariant.room, c.put_cabinet.ensures.within);
    }

pub returns : goal.returns
returns c =
    let register = c.args.register.now in
    let listed = c.args.listed.now in
    let lines = joined_map line_text cabinet_line (map (cabinet_of register) listed) ∙ joined_map (λ k. line_text (cabinet_line k)) (cabinet_of register) listed in
    record { put = subst (λ l. Writes c.args.pen.now l c.loop-one.pen) (ap (flat_map (line_of register)) (take_all c.loop-one.one-index listed c.loop-one-test.false) ∙ sym lines) c.loop-one.invariant.writes }
