use Rattle.std.proofs.Common.{◌≡◌, map}
use Rattle.perimeter_core.specs.Blocks.{Blocks as Had}
use Rattle.perimeter_core.specs.Deeds.{fed}
use Rattle.conn_blocks.specs.Places.{Stands, origin_of}
use Rattle.squeue_replay.specs.Standing.{guest_of}
use Rattle.trace_replay.specs.Joining.{did_before, with_acts}
use Rattle.trace_replay.proofs.orders.give_all.Given as goal

abbrev pub invariant-loop-stay : goal.invariant-loop-stay
invariant-loop-stay l = record {
  stands : (had : Had) → Stands l.initial.blocks had
      → Stands l.blocks (with_acts l.c (did_before l.run.setup.squeues (map (λ gs. map guest_of gs.items) l.guests) l.c l.stay) had);
  origin : origin_of l.blocks ≡ origin_of l.initial.blocks;
  feeds : l.fed ≡ fed (did_before l.run.setup.squeues (map (λ gs. map guest_of gs.items) l.guests) l.c l.stay);
}
