use Rattle.std.proofs.Common.{map, take}
use Rattle.std.specs.List.{AllByRecursion}
use Rattle.case_rows.specs.Wanted.{StandsAmong}
use Rattle.case_rows.proofs.wanted.expect_all_times.Given as goal

abbrev pub invariant-loop-line : goal.invariant-loop-line
invariant-loop-line l = AllByRecursion (λ x. StandsAmong x.now (map (λ line. line.now) l.all)) (take l.line-index l.lines)
