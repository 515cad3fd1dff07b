use Rattle.std.proofs.Common.{◌≡◌, ◌+◌, ◌≤◌, length, vec_capacity}
use Rattle.live_rings.proofs.RingsDealt.{IsDealt}
use Rattle.live_rings.proofs.ring_squeue.deal_places.Given as goal

-- the rings before this one have their places
abbrev pub invariant-loop-ring : goal.invariant-loop-ring
invariant-loop-ring g l =
    record {
      dealt : IsDealt l.count l.own l.ring l.fn.places.items l.places.items l.fn.ends.items l.ends.items l.rings.items;
      left : length l.ends.items + l.ring ≡ l.count;
      room : l.count ≤ vec_capacity l.rings;
    }
