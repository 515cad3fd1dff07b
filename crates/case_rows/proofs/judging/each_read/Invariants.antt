use Rattle.std.proofs.Common.{ℕ, ◌<◌}
use Rattle.case_rows.specs.Runs.{PassesRead}
use Rattle.case_rows.proofs.RunLemmas.{ButReads}
use Rattle.case_rows.proofs.judging.each_read.Given as goal

-- the runs before this one passed
abbrev pub invariant-loop-call : goal.invariant-loop-call
invariant-loop-call g l = ButReads l.fn.given l.given × ((k : ℕ) → k < l.call → PassesRead g.P.Fn l.program l.row.fields.items l.fn.given k)
