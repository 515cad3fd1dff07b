use Rattle.std.proofs.Common.{◌≡◌, ◌⊎◌}
use Rattle.turn_gate.specs.Passes.{IsPassOf, number}
use Rattle.perimeter_core.specs.History.{worker}
use Rattle.squeue_state.specs.Naming.{setting_of}
use Rattle.histories.specs.Elements.{number_of}
use Rattle.squeue_drain.specs.Working.{Worked}
use Rattle.squeue_drain.proofs.working.worker.Given as goal

abbrev pub invariant-loop : goal.invariant-loop
invariant-loop g l =
    record {
      is : IsPassOf number_of l.sq.gate l.pass;
      worker : number l.pass ≡ worker (setting_of g.R.Resident.limits l.sq.given);
      worked : (l.pass ≡ l.fn.pass) ⊎ Worked g.R.Resident.limits l.sq l.fn.pass l.pass;
    }
