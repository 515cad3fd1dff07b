use Rattle.std.proofs.Common.{refl}
use Rattle.squeue_serve.specs.Lending.{lent_to}
use Rattle.squeue_serve.proofs.Lent.{lent_same, lent_other, lent_at, tasks_kept}
use Rattle.squeue_serve.proofs.Unused.{place_worked}
use Rattle.squeue_serve.proofs.ending.work_at.Goals as goal

pub returns-clause-worked : goal.returns-clause-worked
returns-clause-worked g c =
    let was = lent_at c.args.jobs.now.items c.args.i c.index_mut.result.now c.requires.job c.index_mut.ensures.value in
    let now = lent_same c.args.jobs.now.items c.args.i _ c.requires.job in
    place_worked g.R.Resident.limits c.args.squeue.now c.index_mut.result.now.places.items c.index_mut-2.result.now c.work.new.place c.requires.may.0 (lent_to c.args.jobs.now.items c.args.i) _ was c.requires.may.1 c.index_mut-2.ensures.value now c.work.ensures

pub returns-clause-others : goal.returns-clause-others
returns-clause-others g c k apart = lent_other c.args.jobs.now.items c.args.i k _ apart

pub returns-clause-tasks : goal.returns-clause-tasks
returns-clause-tasks g c = tasks_kept c.args.jobs.now.items c.args.i c.index_mut.result.now _ c.index_mut.ensures.value refl
