-- A board that keeps what it should holds against its day book.
use Rattle.std.proofs.Common.{◌≡◌, ℕ, ◌+◌, ◌<◌, ◌≤◌, true, leb, length, ap, mul-le-mul_left, arith}
use Rattle.std.specs.List.{range_with_len, ContainsAt as Has}
use Rattle.std.proofs.lemmas.Bool.{leb-true, le-leb}
use Rattle.std.proofs.ByRecursion.{All-weaker, All-map, all-has, kept_by_passes}
use Rattle.window.specs.Meaning.{Model, Keeps, Permitted}
use Rattle.window.proofs.Bounded.{all_from, all_at}
use Rattle.sketch.specs.Layout.{node_of}
use Rattle.sketch.specs.Plays.{KeyedPlay}
use Rattle.sketch.specs.Nodes.{node_high}
use Rattle.sketch.specs.Laws.{Heard, RangeHolds}
use Rattle.sketch.proofs.NodeLaws.{node_below_high, node_high_near}
use Rattle.sketch.proofs.RangeLaws.{range_holds}
use Rattle.daybook.specs.Book.{Book, Play, Serial, key_of, Enrolled, keyed, count_of_cabinet}
use Rattle.daybook.specs.Boards.{State, low_of, high_of, listed}
use Rattle.listing.specs.Listing.{high_everywhere}
use Rattle.daybook.specs.Promises.{Holds, Guarantee}
use Rattle.daybook.proofs.Kept.{Kept}
use Rattle.daybook.proofs.Keys.{cabinet_in_range, range_in_cabinet, cabinet_in_node, has_kept, kept_rising, kept_below}

module _ {C : Type 0} (m : Model C) (keeps : Keeps m) (σ : State C) (d : C) (book : Book) (kept : Kept m σ book) (t v : ℕ) (permitted : Permitted σ.clock σ.shape.window t v) where
  abbrev enrolled : ℕ
  enrolled = length σ.register

  many : enrolled ≡ length book.enrolled
  many = ap length kept.registered

  heard : Heard σ.shape enrolled σ.clock (keyed book)
  heard =
      let key : Play → KeyedPlay = λ p. record { key = key_of book p.serial; stamp = p.stamp } in
      let e = many in
      record {
        room = omega (arith, kept.room);
        known = All-map (λ p. p.key < enrolled) key book.plays (All-weaker (λ p. Enrolled book p.serial) (λ p. key_of book p.serial < enrolled) (λ p h. omega arith) book.plays kept.known);
        past = All-map (λ p. p.stamp ≤ σ.clock) key book.plays kept.past;
      }

  ranges : (a b : ℕ) → RangeHolds σ.shape enrolled (keyed book) t v a b (low_of m σ d t v a b) (high_of m σ d t v a b)
  ranges a b = range_holds m keeps σ.shape kept.sound σ.cells d enrolled σ.clock (keyed book) kept.faithful heard t v permitted a b

  abbrev high : ℕ → ℕ → ℕ
  high k i = node_high m σ.shape σ.cells d t v k i

  busy : (g : ℕ) (s : Serial) → g ≤ count_of_cabinet book s t v → high_everywhere m σ.shape σ.cells d t v g (key_of book s) ≡ true
  busy g s h =
      all_from (λ k. leb g (high k (node_of k (key_of book s)))) (σ.shape.bits + 1)
      (λ k l. le-leb g (high k (node_of k (key_of book s)))
      (omega (arith, cabinet_in_node book s t v k, node_below_high m keeps σ.shape kept.sound σ.cells d enrolled σ.clock (keyed book) kept.faithful heard t v permitted k (node_of k (key_of book s)) (omega arith))))

  high_at : (g x k : ℕ) → k ≤ σ.shape.bits → Has (listed m σ d t v g) x → g ≤ high k (node_of k x)
  high_at g x k kb h =
      let passes = all-has (λ x. high_everywhere m σ.shape σ.cells d t v g x ≡ true) (listed m σ d t v g) x (kept_by_passes (high_everywhere m σ.shape σ.cells d t v g) (range_with_len 0 enrolled)) h in
      leb-true g (high k (node_of k x)) (all_at (λ k. leb g (high k (node_of k x))) (σ.shape.bits + 1) k (omega arith) passes)

  holds : Holds m σ d book t v
  holds = record {
    range_above_low = λ a b. (ranges a b).above_low;
    range_below_high = λ a b. (ranges a b).below_high;
    cabinet_above_low = λ s known. omega (arith, (ranges (key_of book s) (key_of book s)).above_low, range_in_cabinet book s t v known);
    cabinet_below_high = λ s known. omega (arith, (ranges (key_of book s) (key_of book s)).below_high, cabinet_in_range book s t v);
    high_near = λ a b. (ranges a b).high_near;
    low_near = λ a b. (ranges a b).low_near;
    listed_enrolled = λ g. All-weaker (λ x. x < 0 + enrolled) (λ x. x < length book.enrolled) (λ x h. omega (arith, many)) (listed m σ d t v g) (kept_below (high_everywhere m σ.shape σ.cells d t v g) 0 enrolled);
    listed_rising = λ g. kept_rising (high_everywhere m σ.shape σ.cells d t v g) 0 enrolled;
    busy_listed = λ g s known h. has_kept (high_everywhere m σ.shape σ.cells d t v g) enrolled (key_of book s) (omega (arith, many)) (busy g s h);
    listed_busy = λ g x k h kb.
        let one = mul-le-mul_left σ.shape.fineness (high_at g x k kb h) in
        let two = node_high_near m keeps σ.shape kept.sound σ.cells d enrolled σ.clock (keyed book) kept.faithful heard t v permitted k (node_of k x) kb in
        omega arith;
  }

pub law_holds : {C : Type 0} (m : Model C) → Keeps m → (σ : State C) (book : Book) → Kept m σ book → Guarantee m σ book
law_holds m keeps σ book kept d t v permitted = holds m keeps σ d book kept t v permitted
