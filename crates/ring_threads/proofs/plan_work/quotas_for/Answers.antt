use Rattle.std.proofs.Common.{◌≡◌, map, arith}
use Rattle.std.proofs.lemmas.List.{length-map}
use Rattle.histories.specs.Quotas.{pairs}
use Rattle.ring_threads.specs.Working.{AreQuotas}
use Rattle.ring_threads.proofs.Each.{all_of_them, none_yet, one_more_seen}
use Rattle.ring_threads.proofs.plan_work.quotas_for.Goals as goal

pub loop-q-init : goal.loop-q-init
loop-q-init c =
    record {
      quotas = rw c.in_ok-quotas.ensures.items (none_yet (AreQuotas c.args.plan.now c.args.calls.now c.args.setup.now));
      room = omega (arith, c.in_ok-quotas.ensures.capacity);
    }

pub push_reserved-requires : goal.push_reserved-requires
push_reserved-requires c =
    let n = length-map c.loop-q.quotas.items (λ qs. pairs qs.items) in
    omega (arith, n, c.loop-q.invariant.quotas.count, c.loop-q.invariant.room, c.loop-q-test.true)

pub loop-q-preserved : goal.loop-q-preserved
loop-q-preserved c =
    let its : AreQuotas c.args.plan.now c.args.calls.now c.args.setup.now c.loop-q.q (pairs c.in_ok-its.its.items) = record { are = c.in_ok-its.ensures.quotas; feeds = c.in_ok-its.ensures.feeds; asks = c.in_ok-its.ensures.asks } in
    record {
      quotas = rw c.push_reserved.ensures.items (one_more_seen (λ qs. pairs qs.items) (AreQuotas c.args.plan.now c.args.calls.now c.args.setup.now) c.loop-q.q c.loop-q.quotas.items c.in_ok-its.its c.loop-q.invariant.quotas its);
      room = omega (arith, c.push_reserved.ensures.capacity, c.loop-q.invariant.room);
    }

pub returns : goal.returns
returns c =
    let all : c.loop-q.q ≡ c.args.setup.now.squeues = omega (arith, c.loop-q-test.false, c.loop-q.auto.q-end) in
    all_of_them (AreQuotas c.args.plan.now c.args.calls.now c.args.setup.now) c.loop-q.q c.args.setup.now.squeues (map (λ qs. pairs qs.items) c.loop-q.quotas.items) all c.loop-q.invariant.quotas
