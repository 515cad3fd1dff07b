use Rattle.std.proofs.Common.{◌≡◌, ◌+◌, ◌≤◌, length}
use Rattle.std.specs.Prelude.{vec_capacity, vec_len}
use Rattle.squeue_bench.specs.Places.{AtEach, HasWorked, HaveClosed}
use Rattle.squeue_bench.specs.Runs.{HavePasses}
use Rattle.squeue_bench.proofs.runs.finish_all.Given as goal

abbrev pub invariant-loop-squeue : goal.invariant-loop-squeue
invariant-loop-squeue g l =
    record {
      room : length l.squeues.items + vec_len l.ends ≤ vec_capacity l.ends;
      squeues : HavePasses (length l.initial.rings) l.squeues.items;
      same : length l.rings ≡ length l.initial.rings;
      rings : HaveClosed l.squeues.items l.rings;
      workers : AtEach (HasWorked g.R.Resident.limits) l.squeues.items l.workers.items;
      count : vec_len l.ends + length l.squeues.items ≡ vec_len l.fn.ends + length l.fn.squeues.items;
    }

abbrev pub decreases-loop-squeue : goal.decreases-loop-squeue
decreases-loop-squeue g l = length l.squeues.items
