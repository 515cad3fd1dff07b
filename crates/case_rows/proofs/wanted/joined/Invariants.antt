use Rattle.std.proofs.Common.{◌≡◌, take}
use Rattle.case_rows.specs.Wanted.{spelled}
use Rattle.case_rows.proofs.wanted.joined.Given as goal

abbrev pub invariant-loop-line : goal.invariant-loop-line
invariant-loop-line l = l.bytes.items ≡ spelled (take l.line-index l.lines)
