use Rattle.std.proofs.Common.{◌≡◌, ℕ, ◌+◌, ◌<◌, true, List, Some, map}
use Rattle.perimeter_core.specs.declared.entries.Act.{Act}
use Rattle.squeue_replay.specs.Standing.{guest_of}
use Rattle.trace_replay.specs.Joining.{did_in, left_in}
use Rattle.trace_replay.proofs.orders.count_stays.Given as goal

abbrev pub invariant-loop-stay : goal.invariant-loop-stay
invariant-loop-stay l = record {
  each : (s : ℕ) → s < l.stay → (acts : List Act) × (did_in l.run.setup.squeues (map (λ gs. map guest_of gs.items) l.guests) l.c s ≡ Some acts);
  left : (s : ℕ) → s + 1 < l.stay → left_in l.run.setup.squeues (map (λ gs. map guest_of gs.items) l.guests) l.c s ≡ true;
}
