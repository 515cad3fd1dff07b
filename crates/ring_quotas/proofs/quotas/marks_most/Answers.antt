use Rattle.std.proofs.Common.{◌+◌, ◌*◌, length, arith}
use Rattle.perimeter_core.specs.History.{all_quotas}
use Rattle.ring_quotas.specs.Quotas.{quotas_of}
use Rattle.ring_quotas.proofs.Adding.{quotas_count, range_next}
use Rattle.ring_quotas.proofs.quotas.marks_most.Goals as goal

pub loop-q-preserved : goal.loop-q-preserved
loop-q-preserved c =
    let s = c.args.setup.now in
    let of = quotas_of c.args.plan.now c.args.calls.now s.squeues s.rings s.spread in
    let next = range_next (λ q. 8 * all_quotas (of q) + 4 * (length (of q) + 1)) c.loop-q.q in
    let count = quotas_count c.args.plan.now c.args.calls.now s.squeues s.rings s.spread c.loop-q.q in
    record {
      value = omega (arith, next, count, c.entries_most.ensures.value, c.loop-q.invariant.value);
      few = omega (arith, c.entries_most.ensures.few, c.loop-q.invariant.few);
    }
