-- The squeue's number and setting, and what the worker's pass has seen.
use Rattle.std.specs.Prelude.{length}
use Rattle.squeue_state.specs.Endings.{ending_of, seen_by}
use Rattle.squeue_state.proofs.squeue.ending.Given as goal

abbrev pub ghost-picked : goal.ghost-picked
ghost-picked g a = ending_of g.R.Resident.limits a._squeue.now.given (seen_by (length a._squeue.now.given.quotas) a._passes.now.items)
