use Rattle.std.proofs.Common.{◌≡◌, length, take}
use Rattle.conn_classifier.specs.Sorting.{sorted_seen, seen_of}
use Rattle.conn_classifier.proofs.sorting.sort.Given as goal

abbrev pub invariant-loop-i : goal.invariant-loop-i
invariant-loop-i l = l.sorted ≡ sorted_seen l.ports (length l.capture.packets) l.capture.cut (seen_of l.capture.packets (take l.i l.packets))
