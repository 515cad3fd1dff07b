use Rattle.std.proofs.Common.{◌≡◌, ◌+◌, drop}
use Rattle.std.specs.List.{position_or_len}
use Rattle.case_rows.specs.Wanted.{tells_marks}
use Rattle.case_rows.proofs.wanted.first_told.Given as goal

-- the lines before this one tell of none
abbrev pub invariant-loop-line : goal.invariant-loop-line
invariant-loop-line l = (l.passed ≡ l.line-index) × (position_or_len (λ x. tells_marks x.now) l.all ≡ l.passed + position_or_len (λ x. tells_marks x.now) (drop l.line-index l.all))
