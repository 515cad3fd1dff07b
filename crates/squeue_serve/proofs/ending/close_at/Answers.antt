use Rattle.std.proofs.Common.{Option, refl}
use Rattle.turn_gate.specs.declared.pass.Pass.{Pass}
use Rattle.perimeter_core.specs.History.{Element}
use Rattle.squeue_serve.specs.Places.{Became, HasClosed}
use Rattle.squeue_serve.specs.Lending.{lent_to}
use Rattle.squeue_serve.proofs.Unused.{moved_two}
use Rattle.squeue_serve.proofs.Lent.{lent_same, lent_other, lent_at, tasks_kept}
use Rattle.squeue_serve.proofs.ending.close_at.Goals as goal

pub returns-clause-closed : goal.returns-clause-closed
returns-clause-closed g c =
    moved_two (λ s (o : Option (Pass Element)) n. Became (HasClosed g.R.Resident.limits s) o n) c.args.squeues.now (lent_to c.args.jobs.now.items c.args.i) _ c.index_mut.result.now.places.items c.close_all.new.places.items
    (lent_at c.args.jobs.now.items c.args.i c.index_mut.result.now c.requires.job c.index_mut.ensures.value) (lent_same c.args.jobs.now.items c.args.i _ c.requires.job) c.close_all.ensures

pub returns-clause-others : goal.returns-clause-others
returns-clause-others g c k apart = lent_other c.args.jobs.now.items c.args.i k _ apart

pub returns-clause-tasks : goal.returns-clause-tasks
returns-clause-tasks g c = tasks_kept c.args.jobs.now.items c.args.i c.index_mut.result.now _ c.index_mut.ensures.value refl
