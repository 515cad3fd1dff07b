use Rattle.std.proofs.Common.{◌≡◌, ◌||◌, not, take}
use Rattle.std.specs.Prelude.{codes}
use Rattle.std.specs.List.{count_by}
use Rattle.std.specs.Str.{bytes_eq}
use Rattle.case_rows.specs.Wanted.{tells_marks}
use Rattle.case_rows.proofs.wanted.marks_in.Given as goal

abbrev pub invariant-loop-line : goal.invariant-loop-line
invariant-loop-line l = l.found ≡ count_by (λ x. not (tells_marks x.now || bytes_eq x.now (codes "done"))) (take l.line-index l.lines)
