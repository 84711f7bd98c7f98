use Rattle.std.proofs.Common.{◌<◌, [], length, arith, pow_pos}
use Rattle.histogram.specs.declared.levels.Level.{Level}
use Rattle.histogram.specs.Carrying.{carried_more, carried_done}
use Rattle.histogram.proofs.levels.carry_in.Goals as goal

pub returns-in_default-clause-settled : goal.returns-in_default-clause-settled
returns-in_default-clause-settled c =
    let l = c.loop-level in
    let none : Level = record { number = 0; stamps = [] } in
    let inside : l.level-index < length c.args.levels.now = omega (arith, c.told-levels) in
    carried_done c.args.fineness c.args.t c.args.levels.now l.levels l.level-index l.arriving l.invariant inside none c.insert.new.self c.in_default.ensures.inserted (pow_pos l.level-index)

pub loop-level-preserved : goal.loop-level-preserved
loop-level-preserved c =
    let l = c.loop-level in
    let none : Level = record { number = 0; stamps = [] } in
    let inside : l.level-index < length c.args.levels.now = omega (arith, c.told-levels) in
    carried_more c.args.fineness c.args.t c.args.levels.now l.levels l.level-index l.arriving l.invariant inside none c.insert.new.self c.in-Some.merged c.requires.some c.in-Some.ensures.places c.in-Some.ensures.inserted
