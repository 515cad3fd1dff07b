use Rattle.std.proofs.Common.{◌≡◌, length, map, take}
use Rattle.squeue_pool.proofs.keys.lengths.Given as goal

abbrev pub invariant-loop-row : goal.invariant-loop-row
invariant-loop-row g l = l.counts.items ≡ map (λ row. length row.items) (take l.row-index l.rows)
