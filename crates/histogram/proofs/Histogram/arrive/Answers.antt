use Rattle.std.proofs.Common.{◌+◌, sym, refl, ap, ◌∙◌, subst, arith}
use Rattle.std.proofs.lemmas.Bool.{both_ways}
use Rattle.histogram.specs.Buckets.{bucket, total, settle}
use Rattle.histogram.specs.Histograms.{sound, Arrives}
use Rattle.histogram.specs.Filling.{levels_few}
use Rattle.histogram.specs.Soundness.{parts_from, ranges_from}
use Rattle.histogram.specs.Laws.{arrives, live_sum}
use Rattle.histogram.proofs.Histogram.arrive.Goals as goal

pub drop_dead-requires : goal.drop_dead-requires
drop_dead-requires c = record { places = (parts_from c.args.self.now c.requires.sound).places }

pub carry_in-requires : goal.carry_in-requires
carry_in-requires c =
    let held = c.args.self.now in
    let s = parts_from held c.requires.sound in
    let r = ranges_from held.window held.fineness s.ranges in
    let live = c.drop_dead.ensures.live 1 held.last c.requires.in_time s.falls in
    record {
      some = r.some_fineness;
      fine = r.fineness_fits;
      places = c.drop_dead.ensures.places;
      few = c.drop_dead.ensures.fewer (held.fineness + 1) (levels_few held.fineness held.fineness held.levels s.fills);
      room = omega (arith, ap total live, live_sum held c.args.t held.window c.requires.sound, c.requires.room);
    }

pub returns : goal.returns
returns c =
    let held = c.args.self.now in
    let t = c.args.t in
    let live = c.drop_dead.ensures.live 1 held.last c.requires.in_time (parts_from held c.requires.sound).falls in
    record {
      arrives = subst (λ z. Arrives held z t) (sym c.advance.ensures.advanced) (arrives held _ t c.requires.in_time c.requires.room (record {
        window = refl;
        fineness = refl;
        last = refl;
        taken = refl;
        levels = λ _. (c.carry_in.ensures.twelve, c.carry_in.ensures.places, c.carry_in.ensures.settled ∙ ap (settle held.fineness 1 (bucket 1 t)) live);
        others = λ e. absurd (both_ways (sound held) e c.requires.sound);
      }));
    }
