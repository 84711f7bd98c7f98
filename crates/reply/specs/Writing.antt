-- What writing a reply wants, answers and leaves.
use Rattle.std.specs.Prelude.{◌≡◌, ℕ, ◌^◌, ◌<◌, ◌≤◌, List, ◌++◌, length, drop, Ok, Err, Result}
use Rattle.std.specs.List.{AllByRecursion}
use Rattle.board.specs.declared.records.Record.{Record}
use Rattle.listing.specs.declared.Listed.{Listed}
use Rattle.logline.specs.declared.faults.LineFault.{LineFault}
use Rattle.logline.specs.declared.faults.LineFault.TheVariants.{Room, Form}
use Rattle.reply.specs.declared.replies.Reply.{Reply}
use Rattle.reply.specs.declared.replies.Reply.TheVariants.{Cells, Key, Taken, Pair, List as Lists, No}
use Rattle.reply.specs.Replies.{Said, opened, enrolled, played, counted, listing, refused, text}

-- each listed key has a record, and there are no more of them than 32-bit keys
pub record Known (register : List Record) (listed : List Listed) : Type 0 where
  pub keys : AllByRecursion (λ l. l.key < length register) listed
  pub few : length listed ≤ 2 ^ 32

-- a reply that can be told: a list names known cabinets
abbrev pub Tellable : Reply → Type 0
Tellable (Cells n) = Unit {0}
Tellable (Key n) = Unit {0}
Tellable (Taken n) = Unit {0}
Tellable (Pair low high) = Unit {0}
Tellable (Lists register listed) = Known register.now listed.now
Tellable (No fault) = Unit {0}

-- the places held `was` and hold `after`: the text and what stood behind it; or the text is longer, and all is as it was
abbrev pub WroteReply : Said → (was after : List ℕ) → Result ℕ LineFault → Type 0
WroteReply s was after (Ok n) = (n ≡ length (text s)) × (n ≤ length was) × (after ≡ text s ++ drop n was)
WroteReply s was after (Err (Room needed)) = (needed ≡ length (text s)) × (length was < needed) × (after ≡ was)
WroteReply s was after (Err (Form place)) = ⊥

-- a reply of one line has at most 99 bytes
abbrev pub Brief : Said → Type 0
Brief (opened n) = length (text (opened n)) ≤ 99
Brief (enrolled n) = length (text (enrolled n)) ≤ 99
Brief (played n) = length (text (played n)) ≤ 99
Brief (counted low high) = length (text (counted low high)) ≤ 99
Brief (listing cs) = Unit {0}
Brief (refused fault values) = length (text (refused fault values)) ≤ 99
