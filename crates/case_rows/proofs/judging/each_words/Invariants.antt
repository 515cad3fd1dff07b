use Rattle.std.proofs.Common.{take}
use Rattle.std.specs.List.{AllByRecursion}
use Rattle.case_rows.specs.Runs.{PassesWords}
use Rattle.case_rows.proofs.RunLemmas.{ButWords}
use Rattle.case_rows.proofs.judging.each_words.Given as goal

-- the lines before this one passed
abbrev pub invariant-loop-line : goal.invariant-loop-line
invariant-loop-line g l = ButWords l.fn.given l.given × AllByRecursion (λ line. PassesWords g.P.Fn l.program l.row.fields.items l.fn.given line.now) (take l.line-index l.lines)
