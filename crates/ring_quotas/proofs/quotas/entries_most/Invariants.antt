use Rattle.std.proofs.Common.{◌≡◌, ◌*◌, ◌≤◌, take}
use Rattle.perimeter_core.specs.History.{all_quotas}
use Rattle.ring_quotas.specs.Quotas.{quotas_of}
use Rattle.ring_quotas.proofs.quotas.entries_most.Given as goal

abbrev pub invariant-loop-pass : goal.invariant-loop-pass
invariant-loop-pass l =
    record {
      value : l.entries ≡ all_quotas (take l.pass (quotas_of l.plan l.calls l.setup.squeues l.setup.rings l.setup.spread l.q));
      few : l.entries ≤ l.pass * 2149586944;
    }
