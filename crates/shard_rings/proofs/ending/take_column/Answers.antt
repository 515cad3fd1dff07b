use Rattle.std.proofs.Common.{◌≡◌, ◌<◌, Some, length, slice_get, refl, sym, ◌∙◌, arith}
use Rattle.squeue_rings.proofs.Slots.{got_at}
use Rattle.shard_rings.proofs.Finishing.{all_at, none_taken_yet, one_more_taken}
use Rattle.shard_rings.proofs.ending.take_column.Goals as goal

pub loop-p-init : goal.loop-p-init
loop-p-init g c = record { taken = none_taken_yet c.args.rows.now.items c.args.column.now.items c.requires.room.0; kept = refl }

pub take_cell-cell-requires : goal.take_cell-cell-requires
take_cell-cell-requires g c =
    let i = c.loop-p.invariant in
    let same = i.taken.same in
    let within : c.loop-p.p < length c.loop-p.rows.items = omega (arith, c.loop-p-test.true, c.len-p-end.ensures, same) in
    let at : slice_get c.loop-p.rows.items c.loop-p.p ≡ Some c.index_mut.result.now = got_at c.loop-p.rows.items c.loop-p.p c.index_mut.result.now within c.index_mut.ensures.value in
    all_at (λ row. 0 < length row.items) c.args.rows.now.items c.loop-p.p c.index_mut.result.now c.requires.some (sym (i.taken.rest c.loop-p.p (omega arith)) ∙ at)

pub push_reserved-requires : goal.push_reserved-requires
push_reserved-requires g c =
    let i = c.loop-p.invariant in
    let many = i.taken.many in
    let kept = i.kept in
    omega (arith, many, kept, c.requires.room.1, c.loop-p-test.true, c.len-p-end.ensures)

pub loop-p-preserved : goal.loop-p-preserved
loop-p-preserved g c =
    let i = c.loop-p.invariant in
    let same = i.taken.same in
    let within : c.loop-p.p < length c.loop-p.rows.items = omega (arith, c.loop-p-test.true, c.len-p-end.ensures, same) in
    let at : slice_get c.loop-p.rows.items c.loop-p.p ≡ Some c.index_mut.result.now = got_at c.loop-p.rows.items c.loop-p.p c.index_mut.result.now within c.index_mut.ensures.value in
    record {
      taken = one_more_taken c.loop-p.p c.args.rows.now.items c.loop-p.rows.items c.loop-p.column.items c.push_reserved.new.self.items c.index_mut.result.now c.take_cell-cell.new.row c.take_cell-cell.result at c.take_cell-cell.ensures
          c.push_reserved.ensures.items i.taken;
      kept = c.push_reserved.ensures.capacity ∙ i.kept;
    }
