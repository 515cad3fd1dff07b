use Rattle.worked_runs.proofs.Whole.{is_input, plan_is}
use Rattle.worked_runs.proofs.laws.a_capture_has_a_plan.Goals as goal

pub returns-clause-capture : goal.returns-clause-capture
returns-clause-capture c = is_input

pub returns-clause-plan : goal.returns-clause-plan
returns-clause-plan c = plan_is
