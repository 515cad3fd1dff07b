use Rattle.std.proofs.Common.{ℕ, ◌-◌, ◌∙◌, Some, sym, arith}
use Rattle.ring_quotas.specs.Quotas.{caller_asks, ring_asks, ring_feeds}
use Rattle.ring_quotas.proofs.Adding.{behind, in_front}
use Rattle.ring_quotas.proofs.quotas.quota_of.Goals as goal

pub returns-then-pass-setup-clause-value : goal.returns-then-pass-setup-clause-value
returns-then-pass-setup-clause-value c =
    let p = c.args.plan.now in
    let s = c.args.setup.now in
    in_front (λ r. (ring_feeds p s.squeues s.rings s.spread c.args.q r, ring_asks p s.squeues s.rings s.spread c.args.q r)) (λ j. (0, caller_asks p c.args.calls.now s.squeues s.spread c.args.q j)) s.rings 4 c.args.pass c.if-pass-setup.true
    ∙ sym (λ k. Some (c.ring_quota.ensures.feeds k, c.ring_quota.ensures.asks k))

pub returns-else-pass-setup-clause-value : goal.returns-else-pass-setup-clause-value
returns-else-pass-setup-clause-value c =
    let p = c.args.plan.now in
    let s = c.args.setup.now in
    let asks : ℕ → ℕ × ℕ = λ j. (0, caller_asks p c.args.calls.now s.squeues s.spread c.args.q j) in
    let j = c.args.pass - s.rings in
    behind (λ r. (ring_feeds p s.squeues s.rings s.spread c.args.q r, ring_asks p s.squeues s.rings s.spread c.args.q r)) asks s.rings 4 c.args.pass j (omega (arith, c.if-pass-setup.false)) (omega (arith, c.requires.pass, c.if-pass-setup.false))
    ∙ sym (λ k. Some (0, c.caller_asks.ensures.value k))
