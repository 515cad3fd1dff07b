use Rattle.std.proofs.Common.{[], ◌∷◌}
use Rattle.std.proofs.lemmas.Result.{IfOk-weaker}
use Rattle.perimeter_core.specs.Blocks.{none_done}
use Rattle.perimeter_trial.specs.Logging.{Stands}
use Rattle.perimeter_core.proofs.ActLists.{none_had}
use Rattle.conn_migrate.proofs.ThreeLogs.{here_at_two}
use Rattle.squeue_tests.proofs.moves.opened.Goals as goal

pub make-requires-2-clause-fresh : goal.make-requires-2-clause-fresh
make-requires-2-clause-fresh c = (none_done (c.args.here ∷ c.args.here ∷ c.args.here ∷ []), c.in_ok-logs.ensures.stands, none_had (c.args.here ∷ c.args.here ∷ c.args.here ∷ []))

pub returns-clause-here : goal.returns-clause-here
returns-clause-here c = IfOk-weaker c.make-2.result _ _ (λ r m. here_at_two r.0.given.starts c.args.here (Stands c.in_ok-logs.logs) m.its_blocks c.in_ok-logs.ensures.stands) c.make-2.ensures.given
