use Rattle.std.proofs.Common.{◌+◌, ◌^◌, ◌≤◌, Ok, sym, ap, ◌∙◌, subst, arith, pow_mono}
use Rattle.sketch.specs.Layout.{shape_of}
use Rattle.listing.specs.Answers.{MissAnswer, EntryAnswer}
use Rattle.listing.proofs.Drafts.{Drafted, drafted_none, drafted_all, reached_all, drafted_missed, drafted_unlisted, drafted_listed}
use Rattle.listing.proofs.lists.list.Goals as goal
use Rattle.listing.proofs.lists.list.Goals.{in-Some-2, in_default-2}

pub loop-key-init : goal.loop-key-init
loop-key-init g c =
    let q = c.args.question.now in
    subst (Drafted g.C.Counter.model (shape_of q.sketch.now) q.cells.now q.enrolled q.t q.v c.args.g 0) (sym c.clear.ensures)
    (drafted_none g.C.Counter.model (shape_of q.sketch.now) q.cells.now q.enrolled q.t q.v c.args.g q.sketch.now.bits_range q.room)

pub key_after-key-requires : goal.key_after-key-requires
key_after-key-requires g c =
    let q = c.args.question.now in
    let s = shape_of q.sketch.now in
    let missed = subst (λ o. MissAnswer g.C.Counter.model s q.cells.now q.t q.v c.args.g c.loop-key.key (Ok o)) c.in-Some.is c.in_ok-level.ensures.answered in
    let tight : 2 ^ s.bits ≤ 2 ^ 10 = pow_mono q.sketch.now.bits_range in
    record { key = omega (arith, q.room, c.loop-key-test.true); level = omega (arith, missed.1, q.sketch.now.bits_range) }

pub loop-key-preserved-in-Some : goal.loop-key-preserved-in-Some
loop-key-preserved-in-Some g c =
    let q = c.args.question.now in
    let s = shape_of q.sketch.now in
    let m = g.C.Counter.model in
    let k = c.in-Some.level in
    let missed = subst (λ o. MissAnswer m s q.cells.now q.t q.v c.args.g c.loop-key.key (Ok o)) c.in-Some.is c.in_ok-level.ensures.answered in
    let level : k ≤ s.bits = omega (arith, missed.1) in
    drafted_missed m s q.cells.now q.enrolled q.t q.v c.args.g q.sketch.now.bits_range q.room c.loop-key.key c.loop-key.found.items c.loop-key.invariant c.loop-key-test.true k c.key_after-key.result level c.key_after-key.ensures.next
    (λ d. (missed.2 d).0)
    (λ d. reached_all m s q.cells.now q.enrolled q.t q.v c.args.g q.sketch.now.bits_range q.room c.loop-key.key c.loop-key.found.items c.loop-key.invariant c.loop-key-test.true d (k + 1) (missed.2 d).2)
    (λ d. (missed.2 d).1)

pub push-requires : goal.push-requires
push-requires g c =
    let q = c.args.question.now in
    let tight : 2 ^ q.sketch.now.bits ≤ 2 ^ 10 = pow_mono q.sketch.now.bits_range in
    omega (arith, q.room, c.loop-key-test.true, c.loop-key.invariant.few)

pub loop-key-preserved : goal.loop-key-preserved
loop-key-preserved g c =
    let q = c.args.question.now in
    let s = shape_of q.sketch.now in
    let m = g.C.Counter.model in
    let reached = subst (λ o. MissAnswer m s q.cells.now q.t q.v c.args.g c.loop-key.key (Ok o)) c.in_default.is c.in_ok-level.ensures.answered in
    elim c.match-branch-4.branch [
      | in-Some-2 w ↦
          let got = subst (λ o. EntryAnswer m s q.cells.now q.enrolled q.t q.v c.args.g c.loop-key.key (Ok o)) w.in-Some-2.is c.in_ok-listed.ensures.answered in
          subst (Drafted m s q.cells.now q.enrolled q.t q.v c.args.g (c.loop-key.key + 1)) (sym (ap (λ v. v.items) w.found-is ∙ w.push.ensures.items))
          (drafted_listed m s q.cells.now q.enrolled q.t q.v c.args.g q.sketch.now.bits_range q.room c.loop-key.key c.loop-key.found.items c.loop-key.invariant c.loop-key-test.true w.in-Some-2.listed reached got)
      | in_default-2 w ↦
          let missed = subst (λ o. EntryAnswer m s q.cells.now q.enrolled q.t q.v c.args.g c.loop-key.key (Ok o)) w.in_default-2.is c.in_ok-listed.ensures.answered in
          subst (Drafted m s q.cells.now q.enrolled q.t q.v c.args.g (c.loop-key.key + 1)) (sym (ap (λ v. v.items) w.found-is))
          (drafted_unlisted m s q.cells.now q.enrolled q.t q.v c.args.g q.sketch.now.bits_range q.room c.loop-key.key c.loop-key.found.items c.loop-key.invariant c.loop-key-test.true reached missed)
    ]

pub returns : goal.returns
returns g c =
    let q = c.args.question.now in
    record { answered = drafted_all g.C.Counter.model (shape_of q.sketch.now) q.cells.now q.enrolled q.t q.v c.args.g q.sketch.now.bits_range q.room c.loop-key.key c.loop-key.found c.loop-key-test.false c.loop-key.invariant }
