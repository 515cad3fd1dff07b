use Rattle.std.proofs.Common.{rules}
use Rattle.std.proofs.lemmas.Result.{IfOk-weaker}
use Rattle.perimeter_core.specs.Blocks.{none_done}
use Rattle.perimeter_trial.specs.Logging.{Stands, limits_of, size_of}
use Rattle.perimeter_core.proofs.ActLists.{none_had}
use Rattle.squeue_tests.specs.Rows.{both_here}
use Rattle.squeue_tests.proofs.Starting.{setting_made}
use Rattle.squeue_tests.proofs.worked.beside.two_rings.Goals as goal

pub make-requires-2-clause-fresh : goal.make-requires-2-clause-fresh
make-requires-2-clause-fresh c = (none_done both_here, c.in_ok-logs.ensures.stands, none_had both_here)

pub returns-clause-setting : goal.returns-clause-setting
returns-clause-setting c =
    IfOk-weaker c.make-2.result _ _
    (λ r m. setting_made Stands limits_of size_of _ _ 1 _ _ c.in_ok-logs.logs r.0.given both_here m (c.in_ok-logs.ensures.stands, c.in_ok-logs.ensures.count, search rules))
    c.make-2.ensures.given
