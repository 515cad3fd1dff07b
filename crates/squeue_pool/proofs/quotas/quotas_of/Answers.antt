use Rattle.std.proofs.Common.{ℕ, Vec, ap, sym, map, ◌++◌, ◌∙◌, arith}
use Rattle.std.specs.declared.alloc.Global.{Global}
use Rattle.std.proofs.lemmas.List.{take_all}
use Rattle.std.proofs.lemmas.Simd.{map-map}
use Rattle.squeue_pool.specs.Quotas.{ring_quota, thread_quota}
use Rattle.squeue_pool.proofs.quotas.quotas_of.Goals as goal

pub returns : goal.returns
returns c =
    let rings = map ring_quota (map (λ list. list.items) c.args.lists.now) in
    c.loop-called.invariant
    ∙ ap (λ qs. rings ++ qs)
    (ap (map (λ called. thread_quota c.args.counts.now called.items)) (take_all c.loop-called.called-index c.args.calls.now (omega (arith, c.loop-called-test.false)))
    ∙ sym (map-map (thread_quota c.args.counts.now) (λ (called : Vec ℕ Global). called.items) c.args.calls.now))
