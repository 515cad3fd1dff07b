use Rattle.std.proofs.Common.{◌≤◌, map, vec_capacity}
use Rattle.conn_classifier.specs.RingList.{IsRingList}
use Rattle.ring_threads.specs.Working.{AreEach}
use Rattle.ring_threads.proofs.ring_lists.lists_of.Given as goal

abbrev pub invariant-loop-ring : goal.invariant-loop-ring
invariant-loop-ring l =
    record {
      lists : AreEach (IsRingList l.plan l.rings) l.ring (map (λ list. list.items) l.lists.items);
      room : l.rings ≤ vec_capacity l.lists;
    }
