use Rattle.std.proofs.Common.{refl, sym, ◌∙◌, subst}
use Rattle.shards.specs.Sharing.{limits_for}
use Rattle.shard_rings.specs.declared.run.Task.TheVariants.{Work}
use Rattle.shard_rings.specs.Jobs.{HasDone}
use Rattle.shard_rings.proofs.doing.run_job.Goals as goal

pub returns-in-Work : goal.returns-in-Work
returns-in-Work g c =
    subst (λ task. HasDone limits_for c.args.squeues.now g.B.Brings.did task c.args.job.now.places.items (Work c.in-Work.q) c.work_at.new.places.items) (sym (sym c.replace.ensures.value ∙ c.in-Work.is))
    (refl, c.work_at.ensures)
