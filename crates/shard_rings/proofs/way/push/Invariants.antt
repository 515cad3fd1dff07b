use Rattle.std.proofs.Common.{◌≡◌}
use Rattle.rtrb.specs.Ring.{SameProducer, sent}
use Rattle.shard_rings.proofs.way.push.Given as goal

abbrev pub invariant-tries : goal.invariant-tries
invariant-tries g l =
    record { same : sent l.output ≡ sent l.initial.output; lane : SameProducer l.initial.output l.output; parcel : l.parcel ≡ l.initial.parcel }
