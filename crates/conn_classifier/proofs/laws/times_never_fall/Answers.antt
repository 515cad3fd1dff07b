use Rattle.conn_classifier.specs.Plan.{plan_by}
use Rattle.conn_classifier.proofs.PlanFacts.{items_at}
use Rattle.conn_classifier.proofs.PlanLaw.{is_plan}
use Rattle.conn_classifier.proofs.laws.times_never_fall.Goals as goal

pub returns : goal.returns
returns c = λ file rules c few most lt. (items_at (plan_by file rules) c (is_plan file rules few most) lt).rising
