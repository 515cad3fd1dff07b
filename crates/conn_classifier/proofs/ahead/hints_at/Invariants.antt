use Rattle.std.proofs.Common.{◌≡◌, ◌≤◌, List, length, drop, map}
use Rattle.std.specs.List.{AllByRecursion}
use Rattle.capture_reader.specs.CaptureFile.{Packet as Captured}
use Rattle.conn_classifier.specs.Hints.{hints_of, IsAhead}
use Rattle.conn_classifier.specs.Slots.{IsKept}
use Rattle.conn_classifier.specs.declared.kinds.Arrival.{Arrival}
use Rattle.conn_classifier.proofs.ahead.hints_at.Given as goal

abbrev pub invariant-loop-i : goal.invariant-loop-i
invariant-loop-i l = (l.i ≤ length l.recs) × (length l.hints.items ≡ length l.recs)
    × ((rs : List Captured) (xs : List Arrival) → l.recs ≡ map (λ a. a.rec) xs → AllByRecursion (IsKept rs l.packets) xs
    → (drop l.i l.hints.items ≡ hints_of (drop l.i xs)) × IsAhead l.ahead (drop l.i xs))

abbrev pub decreases-loop-i : goal.decreases-loop-i
decreases-loop-i l = l.i
