use Rattle.std.proofs.Common.{◌∙◌, ◌≤◌, length, arith}
use Rattle.std.proofs.lemmas.List.{take_all}
use Rattle.ring_quotas.specs.Quotas.{quotas_of}
use Rattle.ring_quotas.proofs.Adding.{asks_next, feeds_next, next_value, quotas_count}
use Rattle.ring_quotas.proofs.quotas.quotas_at.Goals as goal

pub loop-pass-preserved : goal.loop-pass-preserved
loop-pass-preserved c =
    let s = c.args.setup.now in
    let all = quotas_of c.args.plan.now c.args.calls.now s.squeues s.rings s.spread c.args.q in
    let old = c.loop-pass.quotas.items in
    let new = c.push_reserved.new.self.items in
    let q = c.quota_of.result in
    let pushed = c.push_reserved.ensures.items in
    let feeds = feeds_next old new q pushed in
    let asks = asks_next old new q pushed in
    record {
      quotas = next_value old new q pushed all c.loop-pass.pass c.loop-pass.invariant.quotas c.quota_of.ensures.value;
      count = omega (arith, c.push_reserved.ensures.len, c.loop-pass.invariant.count);
      room = omega (arith, c.push_reserved.ensures.capacity, c.loop-pass.invariant.room);
      feeds = omega (arith, feeds, c.quota_of.ensures.few.0, c.loop-pass.invariant.feeds);
      asks = omega (arith, asks, c.quota_of.ensures.few.1, c.loop-pass.invariant.asks);
    }

pub returns-clause-quotas : goal.returns-clause-quotas
returns-clause-quotas c =
    let s = c.args.setup.now in
    let all = quotas_of c.args.plan.now c.args.calls.now s.squeues s.rings s.spread c.args.q in
    let past : length all ≤ c.loop-pass.pass = omega (arith, quotas_count c.args.plan.now c.args.calls.now s.squeues s.rings s.spread c.args.q, c.loop-pass-test.false) in
    c.loop-pass.invariant.quotas ∙ take_all c.loop-pass.pass all past
