use Rattle.std.proofs.Common.{◌≡◌, ◌++◌, List}
use Rattle.turn_gate.specs.Passes.{number}
use Rattle.perimeter_core.specs.declared.entries.Feed.{Feed}
use Rattle.squeue_enter.specs.Entering.{MayEnter}
use Rattle.squeue_bench.proofs.threads.enter_waiting.Given as goal

abbrev pub invariant-loop : goal.invariant-loop
invariant-loop g l =
    record {
      may : MayEnter g.R.Resident.limits l.squeue l.pass l.chain;
      number : number l.pass ≡ number l.fn.pass;
      more : (more : List Feed) → MayEnter g.R.Resident.limits l.squeue l.fn.pass (l.chain ++ more) → MayEnter g.R.Resident.limits l.squeue l.pass (l.chain ++ more);
    }
