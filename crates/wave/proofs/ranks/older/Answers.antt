use Rattle.std.proofs.Common.{◌≡◌, ◌-◌, ◌^◌, ◌<◌, sym, arith}
use Rattle.std.proofs.lemmas.Bool.{ltb-true, ltb-false}
use Rattle.std.proofs.lemmas.Nat.{one_shl}
use Rattle.wave.proofs.Walking.{stand_low, none_below, coming_taken, coming_first, coming_rounded, coming_higher, coming_found}
use Rattle.wave.proofs.ranks.older.Goals as goal

pub overflow_shl-level : goal.overflow_shl-level
overflow_shl-level c = omega (arith, stand_low c.args.taken c.args.fineness c.args.level c.args.rank c.requires.stands)

pub returns-in_err-next : goal.returns-in_err-next
returns-in_err-next c =
    let low = stand_low c.args.taken c.args.fineness c.args.level c.args.rank c.requires.stands in
    let e = one_shl c.args.level 32 (omega arith) in
    let less : c.args.rank < 2 ^ c.args.level = omega (arith, e, c.in_err-next.ensures) in
    rw c.from_residual.ensures (record { older = λ x k. none_below c.args.taken c.args.fineness c.args.level c.args.rank c.requires.stands less x })

pub loop-higher-init : goal.loop-higher-init
loop-higher-init c =
    let low = stand_low c.args.taken c.args.fineness c.args.level c.args.rank c.requires.stands in
    let e = one_shl c.args.level 32 (omega arith) in
    let f = c.in_ok-next.ensures in
    let is : c.in_ok-next.next ≡ c.args.rank - 2 ^ c.args.level = omega (arith, e, f.1) in
    rw is (coming_first c.args.taken c.args.fineness c.args.level c.args.rank c.requires.stands (omega (arith, e, f.0)))

pub is_near-requires-clause-reached : goal.is_near-requires-clause-reached
is_near-requires-clause-reached c =
    let r = coming_rounded c.args.taken c.args.fineness c.args.rank c.loop-higher.next c.loop-higher.higher c.rounded-next.result c.rounded-next.ensures.rounded c.loop-higher.invariant in
    coming_taken c.args.taken c.args.fineness c.args.level c.args.rank c.rounded-next.result c.loop-higher.higher c.requires.stands r

pub returns-then-is_near : goal.returns-then-is_near
returns-then-is_near c =
    let y = c.rounded-next.result in
    let e = c.rounded-next.ensures.rounded in
    let r = coming_rounded c.args.taken c.args.fineness c.args.rank c.loop-higher.next c.loop-higher.higher y e c.loop-higher.invariant in
    let le = coming_taken c.args.taken c.args.fineness c.args.level c.args.rank y c.loop-higher.higher c.requires.stands r in
    let near = c.if-is_near.ensures.near in
    record { older = coming_found c.args.taken c.args.fineness c.args.rank c.loop-higher.next c.loop-higher.higher y e (omega (arith, c.loop-higher-test.true)) r (ltb-true _ _ (sym near)) le }

pub loop-higher-preserved : goal.loop-higher-preserved
loop-higher-preserved c =
    let y = c.rounded-next.result in
    let e = c.rounded-next.ensures.rounded in
    let r = coming_rounded c.args.taken c.args.fineness c.args.rank c.loop-higher.next c.loop-higher.higher y e c.loop-higher.invariant in
    let le = coming_taken c.args.taken c.args.fineness c.args.level c.args.rank y c.loop-higher.higher c.requires.stands r in
    let near = c.if-is_near.ensures.near in
    coming_higher c.args.taken c.args.fineness c.args.rank y c.loop-higher.higher r (ltb-false _ _ (sym near)) le
