use Rattle.std.proofs.Common.{map, take}
use Rattle.case_rows.specs.Rows.{WriteAll}
use Rattle.case_rows.proofs.rows.numbers_in.Given as goal

-- the words before this one are these numbers
abbrev pub invariant-loop-word : goal.invariant-loop-word
invariant-loop-word l = WriteAll (map (λ word. word.now) (take l.word-index l.words)) l.numbers.items
