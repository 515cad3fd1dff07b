use Rattle.worked_runs.proofs.EchoRun.{has_ended, has_lived}
use Rattle.worked_runs.proofs.laws.there_is_a_run_over_frames.Goals as goal

pub returns-clause-ended : goal.returns-clause-ended
returns-clause-ended c = λ pass. (has_ended pass, tt)

pub returns-clause-lived : goal.returns-clause-lived
returns-clause-lived c = λ pass. has_lived pass
