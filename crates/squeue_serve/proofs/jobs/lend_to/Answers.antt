use Rattle.std.proofs.Common.{◌++◌, ◌∷◌, [], Some, refl, ap, sym, ◌∙◌}
use Rattle.squeue_serve.proofs.Lent.{lent_same, lent_other, lent_at, tasks_kept}
use Rattle.squeue_serve.proofs.jobs.lend_to.Goals as goal

pub returns-clause-lent : goal.returns-clause-lent
returns-clause-lent g c =
    lent_same c.args.jobs.now.items c.args.i _ c.requires.job ∙ c.push_reserved.ensures.items
    ∙ ap (λ l. l ++ Some c.args.pass ∷ []) (sym (lent_at c.args.jobs.now.items c.args.i c.index_mut.result.now c.requires.job c.index_mut.ensures.value))

pub returns-clause-others : goal.returns-clause-others
returns-clause-others g c k apart = lent_other c.args.jobs.now.items c.args.i k _ apart

pub returns-clause-tasks : goal.returns-clause-tasks
returns-clause-tasks g c = tasks_kept c.args.jobs.now.items c.args.i c.index_mut.result.now _ c.index_mut.ensures.value refl
