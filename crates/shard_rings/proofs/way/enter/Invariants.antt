use Rattle.std.proofs.Common.{ℕ, ◌<◌, ◌^◌}
use Rattle.shard_rings.specs.Knowing.{IsAt}
use Rattle.shard_rings.proofs.way.enter.Given as goal

abbrev pub invariant-tries : goal.invariant-tries
invariant-tries g l =
    record {
      may : (fed : ℕ) × (fed < 2 ^ 50) × IsAt g.R.Resident.limits l.way.squeue.now l.way.ring l.n fed l.pass;
      keeps : (fed : ℕ) → IsAt g.R.Resident.limits l.way.squeue.now l.way.ring l.n fed l.initial.pass → IsAt g.R.Resident.limits l.way.squeue.now l.way.ring l.n fed l.pass;
    }
