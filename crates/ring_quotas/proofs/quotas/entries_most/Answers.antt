use Rattle.std.proofs.Common.{◌∙◌, ◌≤◌, length, ap, arith}
use Rattle.std.proofs.lemmas.List.{take_all}
use Rattle.perimeter_core.specs.History.{all_quotas}
use Rattle.ring_quotas.specs.Quotas.{quotas_of}
use Rattle.ring_quotas.proofs.Adding.{quotas_count, sum_next}
use Rattle.ring_quotas.proofs.quotas.entries_most.Goals as goal

pub loop-pass-preserved : goal.loop-pass-preserved
loop-pass-preserved c =
    let s = c.args.setup.now in
    let all = quotas_of c.args.plan.now c.args.calls.now s.squeues s.rings s.spread c.args.q in
    let next = sum_next all c.loop-pass.pass _ c.quota_of-quota.ensures.value in
    record {
      value = omega (arith, next, c.loop-pass.invariant.value);
      few = omega (arith, c.quota_of-quota.ensures.few.0, c.quota_of-quota.ensures.few.1, c.loop-pass.invariant.few);
    }

pub returns-clause-value : goal.returns-clause-value
returns-clause-value c =
    let s = c.args.setup.now in
    let all = quotas_of c.args.plan.now c.args.calls.now s.squeues s.rings s.spread c.args.q in
    let past : length all ≤ c.loop-pass.pass = omega (arith, quotas_count c.args.plan.now c.args.calls.now s.squeues s.rings s.spread c.args.q, c.loop-pass-test.false) in
    c.loop-pass.invariant.value ∙ ap all_quotas (take_all c.loop-pass.pass all past)
