-- What a board keeps against its day book, call after call.
use Rattle.std.proofs.Common.{◌≡◌, ◌≤◌, length}
use Rattle.std.specs.List.{AllByRecursion}
use Rattle.window.specs.Meaning.{Model}
use Rattle.sketch.specs.Layout.{Sound, keys}
use Rattle.sketch.specs.Laws.{Faithful}
use Rattle.daybook.specs.Book.{Book, Enrolled, keyed}
use Rattle.daybook.specs.Boards.{State}

-- the register is the book's, every play is of an enrolled cabinet and not after the clock, and every cell stands for its plays
pub record Kept {C : Type 0} (m : Model C) (σ : State C) (book : Book) : Type 0 where
  pub sound : Sound σ.shape
  pub registered : σ.register ≡ book.enrolled
  pub counted : σ.accepted ≡ length book.plays
  pub room : length book.enrolled ≤ keys σ.shape
  pub known : AllByRecursion (λ p. Enrolled book p.serial) book.plays
  pub past : AllByRecursion (λ p. p.stamp ≤ σ.clock) book.plays
  pub faithful : Faithful m σ.shape σ.cells (keyed book)
