use Rattle.desk.proofs.Drawing.{Drawn}
use Rattle.desk.proofs.seeds.seed_words.Given as goal

-- the words so far are drawn
abbrev pub invariant-loop-word : goal.invariant-loop-word
invariant-loop-word l = Drawn l.seed l.word-index l.x l.word-items
