use Rattle.std.proofs.Common.{refl}
use Rattle.std.proofs.KnownBytes.{Keeps-refl}
use Rattle.squeue_run.proofs.Outputs.{asked_for}
use Rattle.squeue_run.proofs.Runs.{no_memory}
use Rattle.squeue_run.proofs.run.output.Goals as goal

pub returns-in-Err-NoMemory-clause-ends : goal.returns-in-Err-NoMemory-clause-ends
returns-in-Err-NoMemory-clause-ends g c = no_memory _ _ (record { bytes = Keeps-refl _; faults = refl })

pub returns-in-Ok-clause-ends : goal.returns-in-Ok-clause-ends
returns-in-Ok-clause-ends g c = asked_for _ _ _ c.output_for.result _ c.in-Ok.ensures.ok c.output_for.ensures.ends
