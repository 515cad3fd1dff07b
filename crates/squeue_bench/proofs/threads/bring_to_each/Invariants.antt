use Rattle.std.proofs.Common.{◌≡◌, drop, length, slice_index_or}
use Rattle.squeue_bench.specs.Places.{MayBring}
use Rattle.squeue_bench.proofs.Places.{Halfway}
use Rattle.squeue_bench.proofs.threads.bring_to_each.Given as goal

abbrev pub invariant-loop-q : goal.invariant-loop-q
invariant-loop-q g l =
    record {
      as_many : length l.passes ≡ length l.squeues;
      places : Halfway (λ q o. (s : _) → MayBring g.R.Resident.limits l.way.bound l.k l.rest (slice_index_or l.squeues q s) o) (λ q o. (s : _) → MayBring g.R.Resident.limits l.way.bound l.k (drop l.chain l.rest) (slice_index_or l.squeues q s) o) l.q l.passes;
    }
