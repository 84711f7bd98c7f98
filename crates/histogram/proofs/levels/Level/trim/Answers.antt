use Rattle.std.proofs.Common.{◌≡◌, length, not, refl, arith, rules}
use Rattle.std.proofs.lemmas.List.{length-take}
use Rattle.std.proofs.lemmas.List.Sums.{suffix_len-le-length}
use Rattle.window.specs.Stamps.{is_live}
use Rattle.histogram.specs.Histograms.{in_use}
use Rattle.histogram.proofs.Trimming.{trimmed}
use Rattle.histogram.proofs.levels.Level.trim.Goals as goal

pub overflow_cast-self : goal.overflow_cast-self
overflow_cast-self c = omega (arith, suffix_len-le-length (λ s. not (is_live c.args.t c.args.v s)) (in_use c.args.self.now), length-take c.args.self.now.number c.args.self.now.stamps, c.dead.ensures.counted, c.requires.places)

pub overflow_sub-self : goal.overflow_sub-self
overflow_sub-self c = omega (arith, suffix_len-le-length (λ s. not (is_live c.args.t c.args.v s)) (in_use c.args.self.now), length-take c.args.self.now.number c.args.self.now.stamps, c.dead.ensures.counted)

pub returns-clause-trimmed : goal.returns-clause-trimmed
returns-clause-trimmed c =
    let places : length c.args.self.now.stamps ≡ 7 = search rules in
    trimmed c.args.t c.args.v c.dead.result c.args.self.now _ (omega (arith, c.requires.places)) c.dead.ensures.counted refl refl
