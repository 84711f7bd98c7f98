use Rattle.std.proofs.Common.{Ok, refl}
use Rattle.board.specs.declared.calls.Call.TheVariants.{Ask, Range, List as Listing}
use Rattle.board.specs.declared.calls.Answer.TheVariants.{Estimate, Count}
use Rattle.board.proofs.AtCalls.{served_at}
use Rattle.board.proofs.held.Board.serve.Goals as goal

pub returns-in_ok-low-in-Ask-clause-served : goal.returns-in_ok-low-in-Ask-clause-served
returns-in_ok-low-in-Ask-clause-served g c =
    let a = c.args in
    let ask = c.in-Ask in
    let low = c.in_ok-low-in-Ask.low in
    let high = c.in_ok-low-in-Ask.high in
    served_at g.C.Counter.model a.self.now a.self.now a.cells.now a.cells.now a.register.now a.register.now a.places.now a.places.now a.call (Ask ask.serial ask.t ask.v) ask.is (Ok (Estimate low high))
    (((low, high), refl, c.in_ok-low-in-Ask.ensures.estimated), refl, refl, refl, refl)

pub returns-in_ok-low-in-Range-clause-served : goal.returns-in_ok-low-in-Range-clause-served
returns-in_ok-low-in-Range-clause-served g c =
    let a = c.args in
    let range = c.in-Range in
    let low = c.in_ok-low-in-Range.low in
    let high = c.in_ok-low-in-Range.high in
    served_at g.C.Counter.model a.self.now a.self.now a.cells.now a.cells.now a.register.now a.register.now a.places.now a.places.now a.call (Range range.first range.last range.t range.v) range.is (Ok (Estimate low high))
    (((low, high), refl, c.in_ok-low-in-Range.ensures.estimated), refl, refl, refl, refl)

pub returns-in_ok-list-in-List-clause-served : goal.returns-in_ok-list-in-List-clause-served
returns-in_ok-list-in-List-clause-served g c =
    let a = c.args in
    let list = c.in-List in
    let count = c.in_ok-list-in-List.field-0 in
    served_at g.C.Counter.model a.self.now a.self.now a.cells.now a.cells.now a.register.now a.register.now a.places.now c.list.new.places a.call (Listing list.least list.t list.v) list.is (Ok (Count count))
    ((count, refl, c.in_ok-list-in-List.ensures.listed), refl, refl, refl)
