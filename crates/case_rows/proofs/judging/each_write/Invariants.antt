use Rattle.std.proofs.Common.{ℕ, ◌<◌}
use Rattle.case_rows.specs.Runs.{PassesWrite}
use Rattle.case_rows.proofs.RunLemmas.{ButWrites}
use Rattle.case_rows.proofs.judging.each_write.Given as goal

-- the runs before this one passed
abbrev pub invariant-loop-call : goal.invariant-loop-call
invariant-loop-call g l = ButWrites l.fn.given l.given × ((k : ℕ) → k < l.call → PassesWrite g.P.Fn l.program l.row.fields.items l.fn.given k)
