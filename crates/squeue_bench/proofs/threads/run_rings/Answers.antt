use Rattle.std.proofs.Common.{sym, subst}
use Rattle.squeue_bench.specs.declared.threads.Bringer.{Bringer}
use Rattle.squeue_bench.specs.Places.{AtEach, MayBring}
use Rattle.key_counters.specs.AsResident.{limits_of}
use Rattle.squeue_bench.proofs.threads.run_rings.Goals as goal

pub run_each-requires-after_bounds : goal.run_each-requires-after_bounds
run_each-requires-after_bounds g c κs within = λ i p l is. (c.requires.chain, subst (λ (r : Bringer). AtEach (MayBring limits_of c.args.way.bound i r.feeds.items) c.args.squeues.now r.passes.items) (sym is) (c.requires.rings i p.now l))
