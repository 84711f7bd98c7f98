use Rattle.std.proofs.Common.{◌≡◌, ◌<◌, Some, ap, arith}
use Rattle.std.proofs.lemmas.Bool.Decides.{nat_tests}
use Rattle.wave.specs.Waves.{wave_high}
use Rattle.wave.proofs.Laws.{takes}
use Rattle.wave.proofs.Looking.{survey_pair}
use Rattle.wave.proofs.counter.WaveCounter.take.Goals as goal

pub returns-in_ok-has_room-in-Some : goal.returns-in_ok-has_room-in-Some
returns-in_ok-has_room-in-Some c =
    let w = c.args.self.now in
    let t = c.args.t in
    let high : c.in-Some.high ≡ wave_high w t w.window = ap (λ p. p.1) (survey_pair w t w.window (Some (c.in-Some.field-0-0, c.in-Some.high)) c.in-Some.ensures.surveyed) in
    let room = c.in_ok-has_room-in-Some.ensures.tested in
    let few : c.in-Some.high < 4095 = grind (arith, nat_tests) in
    let all = takes w c.arrive.new.self t c.in_ok-in_turn.ensures.tested (omega arith) c.arrive.ensures.arrived in
    record { took = all.took; recorded = all.recorded; stays_sound = all.stays_sound }
