use Rattle.std.proofs.Common.{◌≡◌, ◌+◌, ◌≤◌, length, vec_capacity}
use Rattle.squeue_arrivals.proofs.RingsDealt.{IsDealt}
use Rattle.squeue_arrivals.proofs.ring_squeue.deal_places.Given as goal

-- the rings before this one have their places
abbrev pub invariant-loop-ring : goal.invariant-loop-ring
invariant-loop-ring g l =
    record {
      dealt : IsDealt l.count l.pool.places l.pool.room l.ring l.fn.places.items l.places.items l.fn.sources.items l.sources.items l.rings.items;
      left : length l.sources.items + l.ring ≡ l.count;
      room : l.count ≤ vec_capacity l.rings;
    }
