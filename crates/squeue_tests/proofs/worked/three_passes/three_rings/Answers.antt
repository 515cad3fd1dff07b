use Rattle.std.proofs.lemmas.Result.{IfOk-weaker}
use Rattle.perimeter_core.specs.Blocks.{none_done}
use Rattle.perimeter_core.proofs.ActLists.{none_had}
use Rattle.squeue_tests.specs.Rows.{all_here}
use Rattle.squeue_tests.proofs.Starting.{setting_made}
use Rattle.squeue_tests.proofs.worked.three_passes.three_rings.Goals as goal

pub make-requires-clause-fresh : goal.make-requires-clause-fresh
make-requires-clause-fresh g c = (none_done all_here, c.requires.0, none_had all_here)

pub returns-clause-setting : goal.returns-clause-setting
returns-clause-setting g c =
    IfOk-weaker c.make.result _ _
    (λ r m. setting_made g.R.Resident.stands g.R.Resident.limits g.R.Resident.size _ _ 2 _ _ c.args.resident r.0.given all_here m c.requires)
    c.make.ensures.given
