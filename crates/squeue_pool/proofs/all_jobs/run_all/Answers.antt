use Rattle.std.proofs.Common.{ℕ, List, map, sym, subst}
use Rattle.squeue_serve.specs.declared.jobs.Job.{Job}
use Rattle.squeue_rings.specs.declared.task.Task.{Task}
use Rattle.squeue_rings.specs.Doing.{MayDo}
use Rattle.squeue_pool.proofs.all_jobs.run_all.Goals as goal

pub run_each-requires-after_bounds : goal.run_each-requires-after_bounds
run_each-requires-after_bounds g c κs within = λ i p lt is κs1 r1 r2 name vals ranges u1 u2 n κs2.
    let calls : List (List ℕ) = map (λ v. v.items) c.args.calls.now.items in (
      c.requires.run,
      (
        c.requires.hints,
        (
          c.requires.intakes,
          subst (λ (j : Job Task). MayDo g.R.Resident.limits c.args.pace.homes.squeues c.args.pace.homes.spread calls c.args.intakes.now.items c.args.access.now.squeues.now j.task j.places.items) (sym is) (c.requires.ready i p.now lt),
        ),
      ),
    )
