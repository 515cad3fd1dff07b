use Rattle.std.proofs.Common.{◌+◌, ap, arith}
use Rattle.perimeter_core.specs.History.{feed_quotas}
use Rattle.histories.specs.declared.quota.Quota.{Quota}
use Rattle.histories.specs.Quotas.{ask_quotas, pairs}
use Rattle.squeue_state.proofs.RoomMade.{feeds_next, asks_next, feeds_part, asks_part, pairs_all}
use Rattle.histories.proofs.Counts.{all_both}
use Rattle.squeue_state.proofs.room.room_for.Goals as goal

pub overflow_add-feeds : goal.overflow_add-feeds
overflow_add-feeds c =
    let d : Quota = record { feeds = 0; asks = 0 } in
    let next = feeds_next c.args.quotas.now c.loop-quota.quota-index d c.loop-quota-test.true in
    let part = feeds_part c.args.quotas.now (c.loop-quota.quota-index + 1) in
    omega (arith, next, part, c.requires.feeds, c.loop-quota.invariant.feeds)

pub overflow_add-asks : goal.overflow_add-asks
overflow_add-asks c =
    let d : Quota = record { feeds = 0; asks = 0 } in
    let next = asks_next c.args.quotas.now c.loop-quota.quota-index d c.loop-quota-test.true in
    let part = asks_part c.args.quotas.now (c.loop-quota.quota-index + 1) in
    omega (arith, next, part, c.requires.asks, c.loop-quota.invariant.asks)

pub loop-quota-preserved : goal.loop-quota-preserved
loop-quota-preserved c =
    let d : Quota = record { feeds = 0; asks = 0 } in
    let feeds = feeds_next c.args.quotas.now c.loop-quota.quota-index d c.loop-quota-test.true in
    let asks = asks_next c.args.quotas.now c.loop-quota.quota-index d c.loop-quota-test.true in
    record { feeds = omega (arith, feeds, c.loop-quota.invariant.feeds); asks = omega (arith, asks, c.loop-quota.invariant.asks) }

pub returns-clause-marks : goal.returns-clause-marks
returns-clause-marks c =
    let is = pairs_all c.args.quotas.now c.loop-quota.quota-index c.loop-quota-test.false in
    omega (arith, c.loop-quota.invariant.feeds, c.loop-quota.invariant.asks, ap feed_quotas is, ap ask_quotas is, all_both (pairs c.args.quotas.now))

pub returns-clause-entries : goal.returns-clause-entries
returns-clause-entries c =
    let is = pairs_all c.args.quotas.now c.loop-quota.quota-index c.loop-quota-test.false in
    omega (arith, c.loop-quota.invariant.feeds, c.loop-quota.invariant.asks, ap feed_quotas is, ap ask_quotas is, all_both (pairs c.args.quotas.now))
