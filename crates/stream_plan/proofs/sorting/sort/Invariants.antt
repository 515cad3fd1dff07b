use Rattle.std.proofs.Common.{◌≡◌, ◌≤◌, take}
use Rattle.stream_plan.specs.Streams.{arrived_from}
use Rattle.stream_plan.specs.Sorting.{sorted_seen}
use Rattle.stream_plan.proofs.sorting.sort.Given as goal

abbrev pub invariant-loop-rec : goal.invariant-loop-rec
invariant-loop-rec l = (l.sorted ≡ sorted_seen (arrived_from l.capture.link 0 (take l.rec l.capture.packets))) × (l.sorted.arrived ≤ l.rec)
