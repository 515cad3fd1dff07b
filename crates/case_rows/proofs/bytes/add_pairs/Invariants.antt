use Rattle.std.proofs.Common.{◌≡◌, ℕ, List, ◌++◌, length}
use Rattle.case_rows.specs.Spelling.{hex}
use Rattle.case_rows.proofs.bytes.add_pairs.Given as goal

-- the digits so far are bytes, which were added
abbrev pub invariant-loop-rest : goal.invariant-loop-rest
invariant-loop-rest l = (bytes : List ℕ) × (l.digits ≡ hex bytes ++ l.rest) × (l.out.items ≡ l.fn.out.items ++ bytes)

abbrev pub decreases-loop-rest : goal.decreases-loop-rest
decreases-loop-rest l = length l.rest
