use Rattle.std.proofs.Common.{◌≡◌, List, sym, refl, subst, append-nil, Bor, rules}
use Rattle.std.specs.List.{flat_map}
use Rattle.board.specs.declared.records.Record.{Record}
use Rattle.listing.specs.declared.Listed.{Listed}
use Rattle.reply.specs.declared.replies.Reply.{Reply}
use Rattle.reply.specs.declared.replies.Reply.TheVariants.{Cells, Key, Taken, Pair, List as Lists, No}
use Rattle.reply.specs.Pieces.{line_text}
use Rattle.reply.specs.Replies.{head, others, text, said}
use Rattle.reply.specs.Steps.{Writes}
use Rattle.reply.proofs.Putting.{writes_more}
use Rattle.reply.proofs.replies.put_reply.Goals as goal
use Rattle.reply.proofs.replies.put_reply.Goals.{in-List, in_default}

-- only a list has other lines
no_others : (reply : Reply) → ((register : Bor (List Record)) (listed : Bor (List Listed)) → reply ≡ Lists register listed → ⊥) → line_text (head (said reply)) ≡ text (said reply)
no_others (Cells n) other = sym (append-nil _)
no_others (Key n) other = sym (append-nil _)
no_others (Taken n) other = sym (append-nil _)
no_others (Pair low high) other = sym (append-nil _)
no_others (Lists register listed) other = absurd (other register listed refl)
no_others (No fault) other = sym (append-nil _)

pub returns-clause-put : goal.returns-clause-put
returns-clause-put c =
    let reply = c.args.reply.now in
    let first = c.put_head.ensures.head.writes in
    let all : Writes c.new-pen.result (text (said reply)) c.match-reply.pen =
    elim c.match-reply.branch [
      | in-List w ↦
          let lists = Lists w.in-List.register w.in-List.listed in
          let head_put = subst (λ r. Writes c.new-pen.result (line_text (head (said r))) c.put_head.new.pen) w.in-List.is first in
          let both = writes_more c.new-pen.result c.put_head.new.pen w.put_cabinets.new.pen (line_text (head (said lists))) (flat_map line_text (others (said lists))) head_put w.put_cabinets.ensures.put in
          subst (λ r. Writes c.new-pen.result (text (said r)) c.match-reply.pen) (sym w.in-List.is) (subst (Writes c.new-pen.result (text (said lists))) (sym w.pen-is) both)
      | in_default w ↦ subst (Writes c.new-pen.result (text (said reply))) (sym w.pen-is) (subst (λ l. Writes c.new-pen.result l c.put_head.new.pen) (no_others reply w.in_default.not-List) first)
    ] in
    search rules
