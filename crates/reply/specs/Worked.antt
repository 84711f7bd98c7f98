-- Sample replies, as they are printed.
use Rattle.std.specs.Prelude.{◌≡◌, ℕ, List, [], ◌∷◌, ◌++◌, codes}
use Rattle.board.specs.declared.faults.Refusal.TheVariants.{BeforeClock}
use Rattle.board.specs.declared.faults.Fault.TheVariants as board
use Rattle.logline.specs.declared.faults.LineFault.TheVariants.{Room, Form}
use Rattle.window.specs.declared.CounterFault.{CounterFault}
use Rattle.window.specs.declared.CounterFault.TheVariants.{Early, Full}
use Rattle.reply.specs.declared.faults.DeskFault.{DeskFault}
use Rattle.reply.specs.declared.faults.DeskFault.TheVariants.{Board, Line}
use Rattle.reply.specs.Faults as faults
use Rattle.reply.specs.Replies.{opened, enrolled, played, counted, listing, refused, text}

-- a printed line with its newline
abbrev pub printed : List ℕ → List ℕ
printed line = line ++ (10 ∷ [])

-- what a refusal prints
abbrev pub refusal_text : DeskFault → List ℕ
refusal_text f = text (refused (faults.number f) (faults.values f))

-- a refusal by the cell in level 0, row 1 and column 3, of stamp 59
abbrev pub by_cell : CounterFault → DeskFault
by_cell f = Board (board.Cell (record { level = 0; row = 1; column = 3; stamp = 59; fault = f }))

-- what the definitions give
pub record WorkedCases : Type 0 where
  -- a board opened, a cabinet enrolled, a play taken, a question answered
  pub cells_line : text (opened 48) ≡ printed (codes "ok cells=48")
  pub key_line : text (enrolled 0) ≡ printed (codes "ok key=0")
  pub taken_line : text (played 16777215) ≡ printed (codes "ok taken=16777215")
  pub count_line : text (counted 0 3) ≡ printed (codes "ok low=0 high=3")
  -- a list of none, and one of two
  pub none_listed : text (listing []) ≡ printed (codes "ok count=0")
  pub two_listed : text (listing (record { serial = codes "CAB0000000000001"; low = 0; high = 3 } ∷ (record { serial = codes "CAB0000000000002"; low = 10; high = 13 } ∷ []))) ≡ printed (codes "ok count=2") ++ (printed (codes "cab=CAB0000000000001 low=0 high=3") ++ printed (codes "cab=CAB0000000000002 low=10 high=13"))
  -- refusals: only those of numbers 14 and 16 say more than the number
  pub before_clock : refusal_text (Board (board.Board (BeforeClock 12))) ≡ printed (codes "no=9")
  pub early_cell : refusal_text (by_cell Early) ≡ printed (codes "no=9")
  pub full_cell : refusal_text (by_cell Full) ≡ printed (codes "no=14 level=0 row=1 t=59")
  pub no_room : refusal_text (Line (Room 2048)) ≡ printed (codes "no=15")
  pub no_form : refusal_text (Line (Form 8)) ≡ printed (codes "no=16 place=8")
