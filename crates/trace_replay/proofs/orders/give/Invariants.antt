use Rattle.std.proofs.Common.{◌≡◌, ◌+◌, take}
use Rattle.perimeter_core.specs.Blocks.{Blocks as Had}
use Rattle.perimeter_core.specs.Deeds.{fed}
use Rattle.conn_blocks.specs.Places.{Stands, origin_of}
use Rattle.trace_replay.specs.Joining.{with_acts}
use Rattle.trace_replay.proofs.orders.give.Given as goal

abbrev pub invariant-loop-act : goal.invariant-loop-act
invariant-loop-act l = record {
  stands : (had : Had) → Stands l.initial.blocks had → Stands l.blocks (with_acts l.c (take l.act-index l.acts) had);
  origin : origin_of l.blocks ≡ origin_of l.initial.blocks;
  feeds : l.fed ≡ l.initial.fed + fed (take l.act-index l.acts);
}
