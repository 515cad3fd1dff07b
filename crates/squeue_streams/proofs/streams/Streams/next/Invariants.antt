use Rattle.std.proofs.Common.{◌≡◌}
use Rattle.rtrb.specs.Ring.{SameConsumer, received}
use Rattle.squeue_streams.proofs.streams.Streams.next.Given as goal

abbrev pub invariant-loop : goal.invariant-loop
invariant-loop g l = record { same : received l.input ≡ received l.initial.input; ring : SameConsumer l.initial.input l.input }
