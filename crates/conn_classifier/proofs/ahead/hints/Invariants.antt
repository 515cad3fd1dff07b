use Rattle.std.proofs.Common.{◌≡◌, ◌≤◌, length, drop}
use Rattle.conn_classifier.specs.Hints.{hints_of, IsAhead}
use Rattle.conn_classifier.proofs.ahead.hints.Given as goal

abbrev pub invariant-loop-i : goal.invariant-loop-i
invariant-loop-i l = (l.i ≤ length l.arrivals) × (length l.hints.items ≡ length l.arrivals)
    × (drop l.i l.hints.items ≡ hints_of (drop l.i l.arrivals)) × IsAhead l.ahead (drop l.i l.arrivals)

abbrev pub decreases-loop-i : goal.decreases-loop-i
decreases-loop-i l = l.i
