use Rattle.std.proofs.Common.{◌≡◌, take}
use Rattle.std.specs.Prelude.{unwrap_or}
use Rattle.std.specs.List.{sum_by}
use Rattle.case_rows.specs.Wanted.{marks_told}
use Rattle.case_rows.proofs.wanted.told_in.Given as goal

abbrev pub invariant-loop-line : goal.invariant-loop-line
invariant-loop-line l = l.told ≡ sum_by (λ x. unwrap_or (marks_told x.now) 0) (take l.line-index l.all)
