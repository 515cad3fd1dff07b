use Rattle.std.proofs.Common.{◌<◌, ◌∙◌, length, sym, subst, slice_index_or, arith}
use Rattle.key_counters.specs.AsResident.{limits_of}
use Rattle.squeue_bench.specs.Places.{HasWorked, IsWorker}
use Rattle.squeue_bench.proofs.threads.run_workers.Goals as goal

pub run_each-requires-after_bounds : goal.run_each-requires-after_bounds
run_each-requires-after_bounds g c κs within = λ i p l is.
    let below : i < length c.args.squeues.now = omega (arith, l, c.requires.as_many) in (below, λ s. subst (IsWorker (slice_index_or c.args.squeues.now i s)) (sym is) (c.requires.each i s p.now below))

pub returns : goal.returns
returns g c =
    record {
      as_many = c.run_each.auto.jobs ∙ c.requires.as_many;
      each = λ q s d l. let e = (c.run_each.ensures q d (omega (arith, l, c.requires.as_many))).1 in subst (HasWorked limits_of (slice_index_or c.args.squeues.now q s)) e.left (e.call s);
    }
