use Rattle.std.proofs.Common.{◌≡◌, ◌++◌, ℕ}
use Rattle.squeue_run.specs.GeneratedCapture.{round_before}
use Rattle.squeue_run.specs.GeneratorState.{Ready}
use Rattle.squeue_run.proofs.generator.push_round.Given as goal

abbrev pub invariant-loop-c : goal.invariant-loop-c
invariant-loop-c l = record {
  file : (number : ℕ) → Ready number l.round 0 l.initial.draws.state l.initial.clients → l.file.items ≡ l.initial.file.items ++ round_before number l.round l.c;
  ready : (number : ℕ) → Ready number l.round 0 l.initial.draws.state l.initial.clients → Ready number l.round l.c l.draws.state l.clients;
}
