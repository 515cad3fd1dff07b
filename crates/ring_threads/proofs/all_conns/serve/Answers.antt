use Rattle.std.proofs.Common.{◌≡◌, ap, sym, ◌∙◌, subst, arith}
use Rattle.std.proofs.lemmas.List.{length-map}
use Rattle.std.proofs.lemmas.Result.{IfOk-weaker}
use Rattle.squeue_pool.specs.Works.{work_of}
use Rattle.ring_quotas.specs.declared.setup.Setup.{Setup}
use Rattle.ring_threads.specs.Served.{HasServed}
use Rattle.ring_threads.specs.Working.{IsWorkFor}
use Rattle.ring_threads.proofs.Suiting.{suits}
use Rattle.ring_threads.proofs.WholeRun.{all_served, filled}
use Rattle.ring_threads.proofs.all_conns.serve.Goals as goal

pub run_for_parts-requires-clause-pool : goal.run_for_parts-requires-clause-pool
run_for_parts-requires-clause-pool g c κs within =
    let rings : c.pool_for-pool.result.rings ≡ c.args.setup.now.rings = ap (λ (s : Setup). s.rings) c.pool_for-pool.ensures in
    let n = length-map c.in_ok-work.work.calls.items (λ v. v.items) in
    (omega (arith, rings, c.requires.setup.rings.0), omega (arith, rings, n, c.in_ok-work.ensures.calls_are.threads, c.requires.setup.rings.1))

pub run_for_parts-requires-clause-work : goal.run_for_parts-requires-clause-work
run_for_parts-requires-clause-work g c κs within =
    let w = work_of c.in_ok-work.work in
    let is = subst (λ (s : Setup). IsWorkFor c.args.plan.now c.args.calls.now s w) (sym c.pool_for-pool.ensures) c.in_ok-work.ensures in
    suits c.args.plan.now c.args.calls.now c.pool_for-pool.result w is c.is_sound.ensures (c.all_items_are_few.ensures c.args.plan.now c.is_sound.ensures) c.requires.calls

pub left-requires-clause-count : goal.left-requires-clause-count
left-requires-clause-count g c = c.in_ok-finished.ensures.count ∙ (c.in_ok-work.ensures.conns ∙ sym c.conns.ensures.value)

pub left-requires-clause-there : goal.left-requires-clause-there
left-requires-clause-there g c =
    let w = work_of c.in_ok-work.work in
    let is = subst (λ (s : Setup). IsWorkFor c.args.plan.now c.args.calls.now s w) (sym c.pool_for-pool.ensures) c.in_ok-work.ensures in
    let rings : c.pool_for-pool.result.rings ≡ c.args.setup.now.rings = ap (λ (s : Setup). s.rings) c.pool_for-pool.ensures in
    filled c.args.plan.now c.args.calls.now c.pool_for-pool.result w is c.is_sound.ensures (omega (arith, rings, c.requires.setup.rings.0)) c.in_ok-finished.finished c.in_ok-finished.ensures
    c.a_settled_order_is_whole.ensures c.a_block_holds_back_what_settling_holds.ensures.served

pub returns : goal.returns
returns g c =
    let w = work_of c.in_ok-work.work in
    let p = c.args.plan.now in
    let calls = c.args.calls.now in
    let is = subst (λ (s : Setup). IsWorkFor p calls s w) (sym c.pool_for-pool.ensures) c.in_ok-work.ensures in
    let rings : c.pool_for-pool.result.rings ≡ c.args.setup.now.rings = ap (λ (s : Setup). s.rings) c.pool_for-pool.ensures in
    let served =
    all_served p calls c.pool_for-pool.result w is c.is_sound.ensures (omega (arith, rings, c.requires.setup.rings.0)) c.in_ok-finished.finished c.in_ok-finished.ensures
    c.a_settled_order_is_whole.ensures c.a_block_holds_back_what_settling_holds.ensures.served
    c.left.result c.left.ensures.ended c.left.ensures.traces c.left.ensures.count c.left.ensures.blocks in
    IfOk-weaker c.left.result _ _ (λ v has. subst (λ (s : Setup). HasServed p calls s v) c.pool_for-pool.ensures has) served
