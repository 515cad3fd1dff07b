use Rattle.std.proofs.Common.{sym, subst}
use Rattle.squeue_serve.specs.declared.jobs.Job.{Job}
use Rattle.shards.specs.Sharing.{limits_for}
use Rattle.shard_rings.specs.declared.run.Task.{Task}
use Rattle.shard_rings.specs.Jobs.{MayDo}
use Rattle.shard_rings.proofs.run.run_all.Goals as goal

pub run_each-requires-after_bounds : goal.run_each-requires-after_bounds
run_each-requires-after_bounds g c κs within = λ i p lt is κs1 r1 r2 name vals ranges u1 u2 n κs2 κs3 within3.
    (c.requires.pool, subst (λ (j : Job (Task g.row.B.Denot g.row.X-Parcel.Denot)). MayDo limits_for c.args.squeues.now j.task j.places.items) (sym is) (c.requires.may i p.now lt))
