use Rattle.std.proofs.Common.{◌≡◌}
use Rattle.rtrb.specs.Ring.{SameProducer, sent}
use Rattle.shards.proofs.taking.give_back.Given as goal

abbrev pub invariant-tries : goal.invariant-tries
invariant-tries g l =
    record { same : sent l.back ≡ sent l.initial.back; lane : SameProducer l.initial.back l.back; parcel : l.parcel ≡ l.initial.parcel }
