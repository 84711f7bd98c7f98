use Rattle.std.proofs.Common.{◌∙◌}
use Rattle.std.proofs.lemmas.Bool.Decides.{Decides-at}
use Rattle.histogram.specs.Soundness.{sound_decided, reads_sound}
use Rattle.histogram.proofs.Histogram.is_sound.Goals as goal

pub returns-clause-decides : goal.returns-clause-decides
returns-clause-decides c = Decides-at _ _ (c.is_some.ensures ∙ reads_sound c.args.self.now 0 0 c.read.result c.read.ensures.reads) (sound_decided c.args.self.now)
