use Rattle.std.proofs.Common.{length}
use Rattle.squeue_bench.specs.Places.{AtEach, MayBring}
use Rattle.squeue_bench.proofs.threads.run_ring.Given as goal

abbrev pub invariant-chains : goal.invariant-chains
invariant-chains g l = AtEach (MayBring g.R.Resident.limits l.way.bound l.k l.rest) l.squeues l.passes.items

abbrev pub decreases-chains : goal.decreases-chains
decreases-chains g l = length l.rest
