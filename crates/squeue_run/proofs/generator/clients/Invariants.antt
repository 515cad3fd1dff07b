use Rattle.std.proofs.Common.{◌≡◌, ◌*◌}
use Rattle.squeue_run.specs.GeneratedCapture.{state_at}
use Rattle.squeue_run.proofs.GeneratorReady.{new_clients}
use Rattle.squeue_run.proofs.generator.clients.Given as goal

abbrev pub invariant-loop-c : goal.invariant-loop-c
invariant-loop-c l = record {
  list : l.all.items ≡ new_clients l.initial.draws.state l.c;
  drawn : l.draws.state ≡ state_at l.initial.draws.state (2 * l.c);
}
