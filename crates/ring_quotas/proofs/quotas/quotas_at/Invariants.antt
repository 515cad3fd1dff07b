use Rattle.std.proofs.Common.{◌≡◌, ◌+◌, ◌*◌, ◌≤◌, take, vec_capacity, vec_len}
use Rattle.perimeter_core.specs.History.{feed_quotas}
use Rattle.histories.specs.Quotas.{pairs, ask_quotas}
use Rattle.ring_quotas.specs.Quotas.{quotas_of}
use Rattle.ring_quotas.proofs.quotas.quotas_at.Given as goal

abbrev pub invariant-loop-pass : goal.invariant-loop-pass
invariant-loop-pass l =
    record {
      quotas : pairs l.quotas.items ≡ take l.pass (quotas_of l.plan l.calls l.setup.squeues l.setup.rings l.setup.spread l.q);
      count : vec_len l.quotas ≡ l.pass;
      room : l.setup.rings + 4 ≤ vec_capacity l.quotas;
      feeds : feed_quotas (pairs l.quotas.items) ≤ l.pass * 2101248;
      asks : ask_quotas (pairs l.quotas.items) ≤ l.pass * 2147485696;
    }
