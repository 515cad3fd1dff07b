use Rattle.std.proofs.Common.{◌+◌, ◌*◌, length}
use Rattle.squeue_serve.proofs.beside.+others.Given as goal

abbrev pub decreases-run_all : goal.decreases-run_all
decreases-run_all g l = 3 * length l.jobs.now

abbrev pub decreases-run_both : goal.decreases-run_both
decreases-run_both g l = 3 * length l.others.now + 2

abbrev pub decreases-run_both-here : goal.decreases-run_both-here
decreases-run_both-here g l = 3 * length l.others.now + 1
