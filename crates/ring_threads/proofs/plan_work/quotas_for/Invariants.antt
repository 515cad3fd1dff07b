use Rattle.std.proofs.Common.{◌≤◌, map, vec_capacity}
use Rattle.histories.specs.Quotas.{pairs}
use Rattle.ring_threads.specs.Working.{AreEach, AreQuotas}
use Rattle.ring_threads.proofs.plan_work.quotas_for.Given as goal

abbrev pub invariant-loop-q : goal.invariant-loop-q
invariant-loop-q l =
    record {
      quotas : AreEach (AreQuotas l.plan l.calls l.setup) l.q (map (λ qs. pairs qs.items) l.quotas.items);
      room : l.setup.squeues ≤ vec_capacity l.quotas;
    }
