use Rattle.std.proofs.Common.{◌≡◌, ◌<◌, Some, length, slice_get, refl, sym, arith}
use Rattle.squeue_rings.proofs.Slots.{got_at}
use Rattle.shard_rings.proofs.Laying.{next_grown}
use Rattle.shard_rings.proofs.making.cells_of.Goals as goal

pub loop-q-preserved : goal.loop-q-preserved
loop-q-preserved g c =
    let i = c.loop-q.invariant in
    let same = i.grown.count in
    let within : c.loop-q.q < length c.loop-q.ends.items = omega (arith, c.loop-q-test.true, c.len-q-end.ensures, same) in
    let at : slice_get c.loop-q.ends.items c.loop-q.q ≡ Some c.index_mut.result.now = got_at c.loop-q.ends.items c.loop-q.q c.index_mut.result.now within c.index_mut.ensures.value in
    let next =
    next_grown c.loop-q.cells.items c.push-in-loop-q.new.self.items c.args.ends.now.items c.loop-q.ends.items _ c.loop-q.q c.index_mut.result.now c.push.new.self c.in_ok-push-2.ensures.items (sym i.count) at
    (record { end = c.in_ok-end.other; more = c.in_ok-push.ensures.items; lane = c.in_ok-end.ensures.lane; unused = c.in_ok-end.ensures.squeue; new = (c.in_ok-end.ensures.ring.0, c.in_ok-end.ensures.ring.1, refl) })
    i.grown in
    record { grown = next.0; count = next.1 }
