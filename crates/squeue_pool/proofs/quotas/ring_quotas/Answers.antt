use Rattle.std.proofs.Common.{Vec, ap, sym, map, ◌∙◌, arith}
use Rattle.std.specs.declared.alloc.Global.{Global}
use Rattle.std.proofs.lemmas.List.{take_all}
use Rattle.std.proofs.lemmas.Simd.{map-map}
use Rattle.perimeter_core.specs.declared.entries.Feed.{Feed}
use Rattle.squeue_pool.specs.Quotas.{ring_quota}
use Rattle.squeue_pool.proofs.quotas.ring_quotas.Goals as goal

pub returns : goal.returns
returns c =
    c.loop-list.invariant
    ∙ (ap (map (λ list. ring_quota list.items)) (take_all c.loop-list.list-index c.args.lists.now (omega (arith, c.loop-list-test.false)))
    ∙ sym (map-map ring_quota (λ (list : Vec Feed Global). list.items) c.args.lists.now))
