use Rattle.std.proofs.Common.{◌≡◌, take}
use Rattle.std.specs.List.{count_by}
use Rattle.std.specs.Str.{bytes_eq}
use Rattle.case_rows.proofs.wanted.times_among.Given as goal

abbrev pub invariant-loop-line : goal.invariant-loop-line
invariant-loop-line l = l.times ≡ count_by (λ x. bytes_eq x.now l.wanted) (take l.line-index l.all)
