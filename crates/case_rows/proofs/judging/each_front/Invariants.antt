use Rattle.std.proofs.Common.{ℕ, ◌<◌, ◌≤◌, take}
use Rattle.case_rows.specs.Runs.{Passes, all}
use Rattle.case_rows.proofs.judging.each_front.Given as goal

-- the shorter fronts passed
abbrev pub invariant-loop-len : goal.invariant-loop-len
invariant-loop-len g l = (k : ℕ) → l.first ≤ k → k < l.len → Passes g.P.Fn l.program l.row.fields.items l.given (take k l.given.input.items) all
