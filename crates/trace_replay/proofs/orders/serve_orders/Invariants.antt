use Rattle.std.proofs.Common.{◌≡◌, ℕ, ◌<◌, ◌≤◌, Some, [], length, map, vec_capacity}
use Rattle.std.specs.Prelude.{slice_get}
use Rattle.perimeter_core.specs.Blocks.{Blocks as Had}
use Rattle.conn_blocks.specs.Places.{Stands, origin_of}
use Rattle.conn_blocks.specs.ServeOrder.{BlockOf}
use Rattle.squeue_replay.specs.Standing.{guest_of}
use Rattle.trace_replay.specs.Joining.{HasOrder}
use Rattle.trace_replay.proofs.orders.serve_orders.Given as goal

abbrev pub invariant-loop-c : goal.invariant-loop-c
invariant-loop-c l = record {
  fresh : (had : Had) × Stands l.blocks had × ((d : ℕ) → l.c ≤ d → d < length l.run.plan.now.tuples → had d ≡ Some []);
  origin : origin_of l.blocks ≡ record { plan = l.run.plan.now; calls = l.run.calls.now };
  count : length l.served.items ≡ l.c;
  room : length l.run.plan.now.tuples ≤ vec_capacity l.served;
  orders : (d : ℕ) (b : BlockOf) → slice_get (map (λ x. x.value) l.served.items) d ≡ Some b
      → HasOrder l.run.setup.squeues (map (λ gs. map guest_of gs.items) l.guests) d l.run.plan.now l.run.calls.now b;
}
