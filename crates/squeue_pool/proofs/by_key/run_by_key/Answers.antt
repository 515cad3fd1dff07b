use Rattle.std.proofs.Common.{◌≡◌, IfOk, length, ap, ◌∙◌, sym, subst, arith}
use Rattle.std.proofs.lemmas.List.{length-map}
use Rattle.std.proofs.lemmas.Result.{IfOk-weaker}
use Rattle.squeue_pool.specs.Keys.{HadAll, key_work}
use Rattle.squeue_pool.specs.Runs.{HasRun}
use Rattle.squeue_pool.specs.Works.{Suits, WorkOf, work_of}
use Rattle.squeue_pool.proofs.ByKey.{had_all, keys_suit}
use Rattle.squeue_pool.proofs.by_key.run_by_key.Goals as goal

pub run-requires-clause-pool : goal.run-requires-clause-pool
run-requires-clause-pool g c κs within =
    let none = ap (λ (w : WorkOf g.row.R.Denot). length w.calls) c.in_ok-work.ensures in
    let n = length-map c.in_ok-work.work.calls.items (λ v. v.items) in
    let rings = c.requires.pool.0.1 in
    (c.requires.pool.0.0, omega (arith, rings, none, n))

pub run-requires-clause-work : goal.run-requires-clause-work
run-requires-clause-work g c κs within =
    let p = c.args.pool.now in
    let counts = c.args.counts.now in
    let same : work_of c.in_ok-work.work ≡ key_work p.pace.homes.squeues p.rings counts c.args.residents.items =
    c.in_ok-work.ensures ∙ ap (λ n. key_work n p.rings counts c.args.residents.items) c.squeues.ensures in
    subst (λ (w : WorkOf g.row.R.Denot). Suits g.R.Resident p w) (sym same)
    (keys_suit g.R.Resident p counts c.args.residents.items c.requires.pool.0.0 c.requires.pool.1 c.requires.counts.1 c.requires.residents)

pub returns-clause-run : goal.returns-clause-run
returns-clause-run g c =
    let p = c.args.pool.now in
    let counts = c.args.counts.now in
    let same : work_of c.in_ok-work.work ≡ key_work p.pace.homes.squeues p.rings counts c.args.residents.items =
    c.in_ok-work.ensures ∙ ap (λ n. key_work n p.rings counts c.args.residents.items) c.squeues.ensures in
    subst (λ (w : WorkOf g.row.R.Denot). IfOk c.run.result (λ v. HasRun g.R.Resident p w v.items)) same c.run.ensures

pub returns-clause-had : goal.returns-clause-had
returns-clause-had g c =
    let p = c.args.pool.now in
    let counts = c.args.counts.now in
    IfOk-weaker c.run.result (λ v. HasRun g.R.Resident p (key_work p.pace.homes.squeues p.rings counts c.args.residents.items) v.items) (λ v. HadAll g.R.Resident p.pace.homes.squeues counts v.items)
    (λ v ran. had_all g.R.Resident p counts c.args.residents.items c.requires.pool.0.0 c.requires.pool.1 c.requires.counts.1 c.requires.residents v.items ran)
    (returns-clause-run g c)
