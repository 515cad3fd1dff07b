use Rattle.std.proofs.Common.{◌≡◌, ◌++◌, drop, length, replicate}
use Rattle.conn_classifier.proofs.RingLaw.{Going, walk}
use Rattle.conn_classifier.proofs.planned.Plan.ring_front.Given as goal

abbrev pub invariant-loop-c : goal.invariant-loop-c
invariant-loop-c l = record {
  going : Going l.self l.rings l.r (drop l.c-index l.self.order) l.next.items;
  made : l.list.items ++ walk l.self l.rings l.r (drop l.c-index l.self.order) l.next.items ≡ walk l.self l.rings l.r l.self.order (replicate (length l.self.tuples) 0);
}
