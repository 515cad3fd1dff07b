use Rattle.std.proofs.Common.{◌<◌, ◌≤◌, length, arith}
use Rattle.live_server.proofs.ReachLemmas.{all_told, all_turned_by, one_lost, one_partly, one_told, one_turn}
use Rattle.live_server.proofs.table.reach_all.Goals as goal

pub loop-place-preserved : goal.loop-place-preserved
loop-place-preserved c =
    let cs = c.args.table.now.entries in
    let here = c.loop-place.table.entries in
    let so_far = c.loop-place.invariant in (
      one_turn c.args.measures c.args.now cs c.loop-place.place here so_far.0 _ _ c.pair_mut-conn.ensures.value c.tick.new.self c.in_default.ensures.conn,
      one_told c.args.measures c.args.now cs c.loop-place.place here so_far.0 _ _ c.pair_mut-conn.ensures.value _ _ _ so_far.1 c.in_default.ensures.sent,
      so_far.2,
    )

pub returns-in-Err-clause-lost : goal.returns-in-Err-clause-lost
returns-in-Err-clause-lost c =
    let lt : c.loop-place.place < length c.args.table.now.entries = omega (arith, c.loop-place.invariant.2, c.loop-place-test.true) in
    (c.loop-place.place, lt, one_lost c.args.measures c.args.now c.args.table.now.entries c.loop-place.place c.loop-place.table.entries c.loop-place.invariant.0 _ _ c.pair_mut-conn.ensures.value c.tick.new.self _ c.leave.ensures.table)

pub returns-clause-table : goal.returns-clause-table
returns-clause-table c =
    let past : length c.args.table.now.entries ≤ c.loop-place.place = omega (arith, c.loop-place.invariant.2, c.loop-place-test.false) in
    all_turned_by c.args.measures c.args.now c.args.table.now.entries c.loop-place.place c.loop-place.table.entries c.loop-place.invariant.0 past

pub returns-clause-sent : goal.returns-clause-sent
returns-clause-sent c =
    let past : length c.args.table.now.entries ≤ c.loop-place.place = omega (arith, c.loop-place.invariant.2, c.loop-place-test.false) in
    all_told c.args.measures c.args.now c.args.table.now.entries c.loop-place.place _ _ c.loop-place.invariant.1 past

pub returns-in-Err-clause-wrote : goal.returns-in-Err-clause-wrote
returns-in-Err-clause-wrote c =
    one_partly c.args.measures c.args.now c.args.table.now.entries c.loop-place.place c.loop-place.table.entries c.loop-place.invariant.0 _ _ c.pair_mut-conn.ensures.value _ _ _ c.loop-place.invariant.1 c.in-Err.ensures.wrote
