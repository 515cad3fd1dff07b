use Rattle.std.proofs.Common.{◌≡◌, ℕ, ◌<◌, length, slice_index_or}
use Rattle.std.specs.Prelude.{vec_len}
use Rattle.squeue_bench.specs.declared.threads.Bringer.{Bringer}
use Rattle.squeue_bench.proofs.runs.spend.Given as goal

abbrev pub invariant-loop-ring : goal.invariant-loop-ring
invariant-loop-ring l = (k : ℕ) (d : Bringer) → k < length l.rings.items → vec_len (slice_index_or l.rings.items k d).passes ≡ 0

abbrev pub decreases-loop-ring : goal.decreases-loop-ring
decreases-loop-ring l = length l.rings.items
