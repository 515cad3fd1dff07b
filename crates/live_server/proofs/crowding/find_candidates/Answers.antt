use Rattle.std.proofs.Common.{◌≤◌, length, arith}
use Rattle.live_server.proofs.CrowdingLemmas.{share_all, share_more, spoken_for}
use Rattle.live_server.proofs.crowding.find_candidates.Goals as goal

pub loop-place-init : goal.loop-place-init
loop-place-init g c = record { kept = λ a. omega arith; bounded = omega arith; within = omega arith; all = c.len-place-end.ensures }

pub speak-found-requires : goal.speak-found-requires
speak-found-requires g c = omega (arith, c.loop-place.invariant.bounded, c.loop-place-test.true)

pub loop-place-preserved : goal.loop-place-preserved
loop-place-preserved g c =
    let cs = g.T.ConnTable.conns c.args.table.now in
    let so_far = c.loop-place.invariant in
    record {
      kept = λ a. omega (arith, so_far.kept a, c.speak-found.ensures.kept a, share_more a cs c.loop-place.place c.peer_at.result c.peer_at.ensures);
      bounded = omega (arith, so_far.bounded, c.speak-found.ensures.more);
      within = omega (arith, so_far.within, so_far.all, c.loop-place-test.true);
      all = so_far.all;
    }

pub returns : goal.returns
returns g c = λ a large.
    let cs = g.T.ConnTable.conns c.args.table.now in
    let so_far = c.loop-place.invariant in
    let past : length cs ≤ c.loop-place.place = omega (arith, so_far.all, c.loop-place-test.false) in
    spoken_for a c.loop-place.found (omega (arith, large, so_far.kept a, so_far.within, share_all a cs c.loop-place.place past))
