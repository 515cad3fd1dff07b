use Rattle.std.proofs.Common.{◌≤◌, ◌∙◌, ◌==◌, length, arith}
use Rattle.live_server.proofs.CrowdingLemmas.{byte_more, counted_more, share_all}
use Rattle.live_server.proofs.crowding.share.Goals as goal

pub loop-place-preserved : goal.loop-place-preserved
loop-place-preserved g c =
    let cs = g.T.ConnTable.conns c.args.table.now in
    let so_far = c.loop-place.invariant in
    record {
      counted = counted_more c.args.address.0 cs c.loop-place.place c.peer_at.result c.loop-place.count c.from-count.result c.peer_at.ensures so_far.counted c.from-count.ensures;
      bounded = byte_more (c.peer_at.result.address.0 == c.args.address.0) c.loop-place.count c.from-count.result c.loop-place.place so_far.bounded c.from-count.ensures;
      within = omega (arith, so_far.within, so_far.all, c.loop-place-test.true);
      all = so_far.all;
    }

pub returns-clause-share : goal.returns-clause-share
returns-clause-share g c =
    let cs = g.T.ConnTable.conns c.args.table.now in
    let so_far = c.loop-place.invariant in
    let past : length cs ≤ c.loop-place.place = omega (arith, so_far.all, c.loop-place-test.false) in
    so_far.counted ∙ share_all c.args.address.0 cs c.loop-place.place past

pub returns-clause-bounded : goal.returns-clause-bounded
returns-clause-bounded g c = omega (arith, c.loop-place.invariant.bounded, c.loop-place.invariant.within)
