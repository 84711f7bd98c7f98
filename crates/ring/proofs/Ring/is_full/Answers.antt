use Rattle.std.proofs.Common.{◌≡◌, false, nat_le, length, get_or, sym, ap, ◌∙◌, rules}
use Rattle.window.specs.Stamps.{is_live}
use Rattle.ring.specs.Kept.{live_kept}
use Rattle.ring.specs.Room.{free_early, free_oldest}
use Rattle.ring.proofs.Ring.is_full.Goals as goal
use Rattle.ring.proofs.Ring.is_full.Goals.{then-self-ge-KEPT, else-self-ge-KEPT}

pub returns-else-is_live : goal.returns-else-is_live
returns-else-is_live c =
    let self = c.args.self.now in
    let t = c.args.t in
    let room : length self.stamps ≡ 256 = search rules in
    let free : false ≡ nat_le 256 (live_kept self t self.window) = elim c.if-self-ge-KEPT.branch [
      | then-self-ge-KEPT w ↦
          free_oldest self t self.window w.if-self-ge-KEPT.true room (ap (λ i. is_live t self.window (get_or self.stamps i 0)) (sym w.place_of.ensures.place) ∙ sym w.is_live.ensures.live ∙ sym w.value-is ∙ c.if-is_live.false)
      | else-self-ge-KEPT w ↦ free_early self t self.window w.if-self-ge-KEPT.false
    ] in
    record { full = c.if-is_live.false ∙ free }
