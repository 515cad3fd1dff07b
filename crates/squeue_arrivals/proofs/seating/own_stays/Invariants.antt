use Rattle.std.proofs.Common.{◌≡◌, ◌≤◌, length, vec_capacity}
use Rattle.squeue_arrivals.proofs.Owned.{IsTaken}
use Rattle.squeue_arrivals.proofs.seating.own_stays.Given as goal

-- the places before this one are looked at
abbrev pub invariant-loop-c : goal.invariant-loop-c
invariant-loop-c g l =
    record {
      taken : IsTaken l.rings l.ring l.c l.fn.places.items l.places.items l.own.items;
      counted : l.count ≡ length l.fn.places.items;
      room : l.count ≤ vec_capacity l.own;
    }
