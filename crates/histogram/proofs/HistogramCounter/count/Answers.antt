use Rattle.std.proofs.Common.{ap, ◌∙◌}
use Rattle.window.proofs.Estimates.{estimate}
use Rattle.histogram.specs.Histograms.{histogram_model}
use Rattle.histogram.specs.Soundness.{reads_pair, counts}
use Rattle.histogram.specs.Laws.{keeps}
use Rattle.histogram.proofs.HistogramCounter.count.Goals as goal

pub returns : goal.returns
returns c =
    let held = c.args.self.now in
    let pair = c.unwrap_or.result in
    let reads = reads_pair held c.args.t c.args.v c.read.result c.read.ensures.reads in
    let low = ap (λ p. p.0) c.unwrap_or.ensures ∙ reads.0 in
    let high = ap (λ p. p.1) c.unwrap_or.ensures ∙ reads.1 in
    let admitted = c.in_ok-permit.ensures.tested in
    record { counted = (admitted, estimate histogram_model keeps held c.args.t c.args.v pair.0 pair.1 admitted low high); gives = counts held c.args.t c.args.v pair low high }
