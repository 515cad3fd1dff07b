use Rattle.std.proofs.Common.{◌≡◌, ◌++◌}
use Rattle.conn_classifier.specs.RingList.{last_feeds}
use Rattle.conn_classifier.proofs.planned.Plan.ring_list.Given as goal

abbrev pub invariant-loop-c : goal.invariant-loop-c
invariant-loop-c l = l.list.items ≡ l.initial.list.items ++ last_feeds l.self l.rings l.r l.c
