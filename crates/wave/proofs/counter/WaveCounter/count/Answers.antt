use Rattle.std.proofs.Common.{ap, ◌∙◌}
use Rattle.window.proofs.Estimates.{estimate}
use Rattle.wave.specs.Waves.{wave_model}
use Rattle.wave.specs.Standing.{wave_keeps}
use Rattle.wave.proofs.Looking.{survey_pair}
use Rattle.wave.proofs.counter.WaveCounter.count.Goals as goal

pub returns : goal.returns
returns c =
    let held = c.args.self.now in
    let pair = c.unwrap_or.ensures ∙ survey_pair held c.args.t c.args.v c.survey.result c.survey.ensures.surveyed in
    let admitted = c.in_ok-permit.ensures.tested in
    record { counted = (admitted, estimate wave_model wave_keeps held c.args.t c.args.v c.unwrap_or.result.0 c.unwrap_or.result.1 admitted (ap (λ p. p.0) pair) (ap (λ p. p.1) pair)) }
