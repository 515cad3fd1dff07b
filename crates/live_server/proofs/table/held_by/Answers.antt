use Rattle.std.proofs.Common.{◌≡◌, ◌≤◌, ◌<◌, length, arith, min, ◌-◌, ◌^◌, ◌+◌}
use Rattle.tcb_machine.specs.BlockState.{held_in}
use Rattle.live_server.specs.Table.{conn_at}
use Rattle.live_server.proofs.HeldLemmas.{held_all, held_more}
use Rattle.live_server.proofs.table.held_by.Goals as goal

pub loop-place-preserved : goal.loop-place-preserved
loop-place-preserved c =
    let cs = c.args.table.now.entries in
    let lt : c.loop-place.place < length cs = omega (arith, c.loop-place.invariant.1, c.loop-place-test.true) in
    let held = held_in (conn_at c.loop-place.place cs).tcb in
    let sum : c.saturating_add-total.result ≡ min (2 ^ 64 - 1) (c.loop-place.total + held) = omega (arith, c.saturating_add-total.ensures, c.held_at.ensures) in (
      held_more cs c.loop-place.place c.loop-place.total _ lt c.loop-place.invariant.0 sum,
      c.loop-place.invariant.1,
    )

pub returns : goal.returns
returns c =
    let past : length c.args.table.now.entries ≤ c.loop-place.place = omega (arith, c.loop-place.invariant.1, c.loop-place-test.false) in
    held_all c.args.table.now.entries c.loop-place.place c.loop-place.total past c.loop-place.invariant.0
