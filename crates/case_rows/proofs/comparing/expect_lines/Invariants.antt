use Rattle.std.proofs.Common.{◌≡◌, ◌∷◌, ◌++◌, [], take}
use Rattle.std.specs.List.{flat_map}
use Rattle.case_rows.proofs.comparing.expect_lines.Given as goal

abbrev pub invariant-loop-line : goal.invariant-loop-line
invariant-loop-line l = l.got ≡ flat_map (λ line. line.now ++ 10 ∷ []) (take l.line-index l.wanted) ++ l.rest
