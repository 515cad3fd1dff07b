use Rattle.std.proofs.Common.{◌≡◌, ◌≤◌, false, replicate, vec_capacity}
use Rattle.squeue_arrivals.proofs.seating.no_parts.Given as goal

abbrev pub invariant-loop-c : goal.invariant-loop-c
invariant-loop-c g l =
    record {
      none : l.none.items ≡ replicate l._c false;
      room : l.count ≤ vec_capacity l.none;
    }
