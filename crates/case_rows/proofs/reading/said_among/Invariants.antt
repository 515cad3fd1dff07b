use Rattle.std.proofs.Common.{◌≡◌, ◌+◌, ◌-◌, ◌≤◌, ◌++◌, length, map}
use Rattle.case_rows.specs.Files.{numbered, said}
use Rattle.case_rows.proofs.reading.said_among.Given as goal

abbrev pub invariant-loop-rest : goal.invariant-loop-rest
invariant-loop-rest l = (length l.rest ≤ length l.all) × (map numbered l.lines.items ++ said (length l.all - length l.rest + 1) (map (λ x. x.now) l.rest) ≡ said 1 (map (λ x. x.now) l.all))

abbrev pub decreases-loop-rest : goal.decreases-loop-rest
decreases-loop-rest l = length l.rest
