use Rattle.std.proofs.Common.{◌≡◌, ◌++◌}
use Rattle.squeue_run.specs.GeneratedCapture.{rounds_before, file_header}
use Rattle.squeue_run.specs.GeneratorState.{Ready}
use Rattle.squeue_run.proofs.generator.generate.Given as goal

abbrev pub invariant-loop-round : goal.invariant-loop-round
invariant-loop-round l = record {
  file : l.file.items ≡ file_header ++ rounds_before l.number l.round;
  ready : Ready l.number l.round 0 l.draws.state l.clients.items;
}
