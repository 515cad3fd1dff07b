use Rattle.std.proofs.Common.{rules}
use Rattle.std.proofs.lemmas.Result.{IfOk-weaker}
use Rattle.perimeter_core.specs.Blocks.{none_done}
use Rattle.perimeter_trial.specs.Logging.{Stands, limits_of, size_of}
use Rattle.perimeter_core.proofs.ActLists.{none_had}
use Rattle.squeue_tests.specs.Rows.{the_one}
use Rattle.squeue_tests.proofs.Starting.{setting_made}
use Rattle.squeue_tests.proofs.worked.bounded.bounded.Goals as goal

pub make_bounded-requires-clause-fresh : goal.make_bounded-requires-clause-fresh
make_bounded-requires-clause-fresh c = (none_done the_one, c.in_ok-logs.ensures.stands, none_had the_one)

pub returns-clause-setting : goal.returns-clause-setting
returns-clause-setting c =
    IfOk-weaker c.make_bounded.result _ _
    (λ r m. setting_made Stands limits_of size_of _ _ 20 _ _ c.in_ok-logs.logs r.0.given the_one m (c.in_ok-logs.ensures.stands, c.in_ok-logs.ensures.count, search rules))
    c.make_bounded.ensures.given
