use Rattle.std.proofs.Common.{◌≡◌, ◌+◌, ◌*◌, ◌≤◌, length, sum_by}
use Rattle.std.specs.List.{range_with_len}
use Rattle.perimeter_core.specs.History.{all_quotas}
use Rattle.ring_quotas.specs.Quotas.{quotas_of}
use Rattle.ring_quotas.proofs.quotas.marks_most.Given as goal

abbrev pub invariant-loop-q : goal.invariant-loop-q
invariant-loop-q l =
    record {
      value : l.most
          ≡ sum_by (λ q. 8 * all_quotas (quotas_of l.plan l.calls l.setup.squeues l.setup.rings l.setup.spread q) + 4 * (length (quotas_of l.plan l.calls l.setup.squeues l.setup.rings l.setup.spread q) + 1)) (range_with_len 0 l.q);
      few : l.most ≤ l.q * 8796093022304;
    }
