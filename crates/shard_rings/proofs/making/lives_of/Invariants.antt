use Rattle.std.proofs.Common.{◌≡◌, replicate}
use Rattle.squeue_state.specs.Behind.{ever}
use Rattle.shard_rings.specs.Making.{life}
use Rattle.shard_rings.proofs.making.lives_of.Given as goal

abbrev pub invariant-loop-p : goal.invariant-loop-p
invariant-loop-p l = ever l.lives.items ≡ replicate l._p life
