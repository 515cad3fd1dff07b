use Rattle.std.proofs.Common.{refl}
use Rattle.squeue_serve.proofs.beside.run_each_after.Goals as goal

pub returns : goal.returns
returns g c i d below = (refl, c.run_all.ensures.each i d below)
