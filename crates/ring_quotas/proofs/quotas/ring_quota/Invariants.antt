use Rattle.std.proofs.Common.{◌≡◌, ◌+◌, ◌%◌, ◌==◌, length}
use Rattle.conn_classifier.specs.Plan.{items_in}
use Rattle.histories.specs.Homes.{times_leaving}
use Rattle.ring_quotas.specs.Quotas.{feeds_at, times_coming}
use Rattle.ring_quotas.proofs.Adding.{sum_of}
use Rattle.ring_quotas.proofs.quotas.ring_quota.Given as goal

abbrev pub invariant-loop-c : goal.invariant-loop-c
invariant-loop-c l =
    record {
      feeds : l.entered ≡ sum_of (λ c. feeds_at l.setup.squeues l.setup.spread l.q c (length (items_in l.plan c))) (λ c. c % l.setup.rings == l.ring) 0 l.c;
      asks : l.asks
          ≡ sum_of (λ c. times_leaving l.setup.squeues l.setup.spread l.q c (length (items_in l.plan c)) + times_coming l.setup.squeues l.setup.spread l.q c (length (items_in l.plan c))) (λ c. c % l.setup.rings == l.ring) 0 l.c;
    }
