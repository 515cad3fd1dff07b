use Rattle.std.proofs.Common.{◌≡◌, ℕ, IfOk, List, Vec, length, ap, sym, ◌∙◌, subst, arith}
use Rattle.std.proofs.lemmas.List.{length-map}
use Rattle.std.specs.declared.alloc.Global.{Global}
use Rattle.histories.specs.declared.quota.Quota.{Quota}
use Rattle.squeue_serve.specs.Lending.{tasks_in}
use Rattle.synch_enter.specs.Hinting.{conns_of}
use Rattle.squeue_rings.specs.Tasks.{AreTasks}
use Rattle.squeue_pool.specs.Works.{Suits, WorkOf, work_by}
use Rattle.squeue_pool.specs.Runs.{HasRun}
use Rattle.squeue_pool.proofs.IntakesOf.{all_short, intakes_have, list_in, same_work}
use Rattle.squeue_pool.proofs.whole_run.run.Goals as goal

pub intakes_of-requires : goal.intakes_of-requires
intakes_of-requires g c = all_short c.args.work.lists.items c.requires.work.short_lists

pub run_by-requires-clause-work : goal.run_by-requires-clause-work
run_by-requires-clause-work g c κs within =
    let have = intakes_have c.args.work.lists.items c.in_ok-rings.rings.items c.in_ok-intakes.intakes.items c.in_ok-intakes.ensures.intakes c.in_ok-rings.ensures.intakes in
    let whole : Suits g.R.Resident c.args.pool.now (work_by (conns_of c.in_ok-hints.hints) c.args.work.residents.items c.args.work.quotas.items c.in_ok-intakes.intakes.items c.args.work.calls.items) =
    subst (λ (w : WorkOf g.row.R.Denot). Suits g.R.Resident c.args.pool.now w) (sym (same_work c.args.work (conns_of c.in_ok-hints.hints) c.in_ok-intakes.intakes.items c.in_ok-hints.ensures.conns have)) c.requires.work in
    subst (λ (qs : List (Vec Quota Global)). Suits g.R.Resident c.args.pool.now (work_by (conns_of c.in_ok-hints.hints) c.args.work.residents.items qs c.in_ok-intakes.intakes.items c.args.work.calls.items)) (sym c.deref.ensures.value) whole

pub run_by-requires-clause-tasks : goal.run_by-requires-clause-tasks
run_by-requires-clause-tasks g c κs within =
    let rings : length c.in_ok-rings.rings.items ≡ c.args.pool.now.rings = sym (length-map c.in_ok-rings.rings.items list_in) ∙ (ap length c.in_ok-rings.ensures.intakes ∙ c.requires.work.lists) in
    let callers : c.len.result ≡ length c.args.work.calls.items = omega (arith, c.len.ensures, c.args.work.calls.ok) in
    subst (λ (k : ℕ). AreTasks k (length c.args.work.calls.items) c.args.pool.now.pace.homes.squeues c.in_ok-intakes.intakes.items (tasks_in c.in_ok-jobs.jobs.items)) rings
    (subst (λ (k : ℕ). AreTasks (length c.in_ok-rings.rings.items) k c.args.pool.now.pace.homes.squeues c.in_ok-intakes.intakes.items (tasks_in c.in_ok-jobs.jobs.items)) callers
    (subst (λ (k : ℕ). AreTasks (length c.in_ok-rings.rings.items) c.len.result k c.in_ok-intakes.intakes.items (tasks_in c.in_ok-jobs.jobs.items)) c.squeues-2.ensures
    (subst (AreTasks (length c.in_ok-rings.rings.items) c.len.result c.squeues-2.result c.in_ok-intakes.intakes.items) (sym c.in_ok-jobs.ensures.tasks) c.in_ok-intakes.ensures.tasks)))

pub returns-in-Ok : goal.returns-in-Ok
returns-in-Ok g c =
    let have = intakes_have c.args.work.lists.items c.in_ok-rings.rings.items c.in_ok-intakes.intakes.items c.in_ok-intakes.ensures.intakes c.in_ok-rings.ensures.intakes in
    let same = same_work c.args.work (conns_of c.in_ok-hints.hints) c.in_ok-intakes.intakes.items c.in_ok-hints.ensures.conns have in
    let quotas : work_by (conns_of c.in_ok-hints.hints) c.args.work.residents.items c.deref.result.now c.in_ok-intakes.intakes.items c.args.work.calls.items
    ≡ work_by (conns_of c.in_ok-hints.hints) c.args.work.residents.items c.args.work.quotas.items c.in_ok-intakes.intakes.items c.args.work.calls.items =
    ap (λ (qs : List (Vec Quota Global)). work_by (conns_of c.in_ok-hints.hints) c.args.work.residents.items qs c.in_ok-intakes.intakes.items c.args.work.calls.items) c.deref.ensures.value in
    subst (λ (w : WorkOf g.row.R.Denot). IfOk c.run_by.result (λ v. HasRun g.R.Resident c.args.pool.now w v.items)) (quotas ∙ same) c.run_by.ensures
