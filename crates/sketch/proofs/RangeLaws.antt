-- The live plays of a key range lie from its low to its high, and both are near, where the cells stand for the plays.
use Rattle.std.proofs.Common.{ℕ, ◌+◌, ◌^◌, ◌<◌, List, sym, arith}
use Rattle.std.specs.List.{AllByRecursion}
use Rattle.std.proofs.ByRecursion.{All-weaker}
use Rattle.window.specs.Stamps.{is_live}
use Rattle.window.specs.Meaning.{Model, Keeps, Permitted}
use Rattle.sketch.specs.Layout.{Shape, Sound}
use Rattle.sketch.specs.Plays.{KeyedPlay, count_of_node, least_row_count}
use Rattle.sketch.specs.Nodes.{node_low, node_high, range_low, range_high}
use Rattle.sketch.specs.Laws.{Faithful, Heard, RangeHolds, clear_count}
use Rattle.sketch.proofs.Partition.{over_scaled, pieces_add}
use Rattle.sketch.proofs.NodeLaws.{node_above_low, node_below_high, node_high_near, node_low_near}

module _ {C : Type 0} (m : Model C) (keeps : Keeps m) (s : Shape) (sound : Sound s) (cells : List C) (d : C) (enrolled clock : ℕ) (plays : List KeyedPlay) (faithful : Faithful m s cells plays) (heard : Heard s enrolled clock plays) (t v : ℕ) (permitted : Permitted clock s.window t v) (a b : ℕ) where
  abbrev counts : ℕ → ℕ → ℕ
  counts k i = count_of_node plays k i t v

  pub range_holds : RangeHolds s enrolled plays t v a b (range_low m s cells d enrolled t v a b) (range_high m s cells d t v a b)
  range_holds =
      let room = heard.room in
      let keyed : AllByRecursion (λ (p : KeyedPlay). p.key < 2 ^ s.bits) plays = All-weaker (λ p. p.key < enrolled) (λ p. p.key < 2 ^ s.bits) (λ p h. omega arith) plays heard.known in
      let adds = pieces_add s.bits a b (λ (p : KeyedPlay). is_live t v p.stamp) (λ p. p.key) plays keyed in
      let lows = over_scaled s.bits a b 1 1 (node_low m s cells d enrolled t v) counts (λ k i kb ib. omega (arith, node_above_low m keeps s sound cells d enrolled clock plays faithful heard t v permitted k i kb)) in
      let highs = over_scaled s.bits a b 1 1 counts (node_high m s cells d t v) (λ k i kb ib. omega (arith, node_below_high m keeps s sound cells d enrolled clock plays faithful heard t v permitted k i kb)) in
      record {
        pieces_add = sym adds;
        above_low = omega (arith, adds, lows);
        below_high = omega (arith, adds, highs);
        high_near = over_scaled s.bits a b s.fineness (s.fineness + 1) (node_high m s cells d t v) (least_row_count s plays t v) (λ k i kb ib. node_high_near m keeps s sound cells d enrolled clock plays faithful heard t v permitted k i kb);
        low_near = over_scaled s.bits a b s.fineness (s.fineness + 1) (clear_count s enrolled plays t v) (node_low m s cells d enrolled t v) (λ k i kb ib. node_low_near m keeps s sound cells d enrolled clock plays faithful heard t v permitted k i kb);
      }
