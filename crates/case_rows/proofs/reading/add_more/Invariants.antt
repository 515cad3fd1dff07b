use Rattle.std.proofs.Common.{◌≡◌, ◌++◌, true, map, take}
use Rattle.case_rows.specs.Files.{fit_more, more_in_full, named_of, numbered}
use Rattle.case_rows.proofs.reading.add_more.Given as goal

abbrev pub invariant-loop-line : goal.invariant-loop-line
invariant-loop-line l = (map (λ x. x.now) l.lines.items ≡ map (λ x. x.now) l.fn.lines.items ++ more_in_full (map named_of l.parts) (map numbered (take l.line-index l.more)))
    × (fit_more (map named_of l.parts) (map numbered (take l.line-index l.more)) ≡ true)
