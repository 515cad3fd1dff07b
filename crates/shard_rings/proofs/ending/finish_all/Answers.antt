use Rattle.std.proofs.Common.{◌≡◌, ◌∷◌, [], length, length-append, reverse, refl, ap, sym, ◌∙◌, subst, arith, rules}
use Rattle.std.proofs.lemmas.List.{length-reverse, reverse-append}
use Rattle.shard_rings.specs.declared.run.ServedShard.{ServedShard}
use Rattle.shard_rings.specs.Columns.{AreEnded}
use Rattle.shard_rings.proofs.Finishing.{SoFar, all_ended, column_count, its_lanes, its_may, none_ended, one_ended, some_left}
use Rattle.shard_rings.proofs.ending.finish_all.Goals as goal

pub squeues-init : goal.squeues-init
squeues-init g c =
    record {
      so_far = none_ended c.args.rows.items c.args.left.items (reverse c.args.room.items) (ap reverse c.requires.room.0) c.requires.rows;
      column = c.requires.column.0;
      column_room = c.requires.column.1;
      room = c.requires.room.1;
    }

pub take_column-requires-clause-some : goal.take_column-requires-clause-some
take_column-requires-clause-some g c =
    some_left c.args.rows.items c.args.left.items c.squeues.left.items c.pop.new.self.items c.in-Some.last c.squeues.rows.items (reverse c.squeues.served.items) c.in-Some.ensures.items c.squeues.invariant.so_far

pub take_column-requires-clause-room : goal.take_column-requires-clause-room
take_column-requires-clause-room g c =
    let i = c.squeues.invariant in
    let n = i.so_far.rows_count in
    let m = i.column_room in
    (i.column, omega (arith, n, m))

pub finish-shared-requires-clause-lanes : goal.finish-shared-requires-clause-lanes
finish-shared-requires-clause-lanes g c =
    its_lanes c.args.rows.items c.args.left.items c.squeues.left.items c.pop.new.self.items c.in-Some.last c.squeues.rows.items (reverse c.squeues.served.items) c.in-Some.ensures.items c.squeues.invariant.so_far
    c.take_column.new.rows.items c.take_column.new.column.items c.take_column.ensures.taken c.requires.may

pub finish-shared-requires-clause-rings : goal.finish-shared-requires-clause-rings
finish-shared-requires-clause-rings g c =
    (its_may c.args.rows.items c.args.left.items c.squeues.left.items c.pop.new.self.items c.in-Some.last c.squeues.rows.items (reverse c.squeues.served.items) c.in-Some.ensures.items c.squeues.invariant.so_far
    c.take_column.new.rows.items c.take_column.new.column.items c.take_column.ensures.taken c.requires.may).rings
    ∙ sym (column_count c.args.rows.items c.args.left.items c.squeues.left.items c.pop.new.self.items c.in-Some.last c.squeues.rows.items (reverse c.squeues.served.items) c.in-Some.ensures.items c.squeues.invariant.so_far
    c.take_column.new.rows.items c.take_column.new.column.items c.take_column.ensures.taken)

pub finish-shared-requires-clause-merged : goal.finish-shared-requires-clause-merged
finish-shared-requires-clause-merged g c =
    (its_may c.args.rows.items c.args.left.items c.squeues.left.items c.pop.new.self.items c.in-Some.last c.squeues.rows.items (reverse c.squeues.served.items) c.in-Some.ensures.items c.squeues.invariant.so_far
    c.take_column.new.rows.items c.take_column.new.column.items c.take_column.ensures.taken c.requires.may).merged

pub push_reserved-requires : goal.push_reserved-requires
push_reserved-requires g c =
    let i = c.squeues.invariant in
    let n = i.so_far.count in
    let m = length-reverse c.squeues.served.items in
    let k = i.room in
    let less = ap length c.in-Some.ensures.items in
    let more = length-append c.pop.new.self.items (c.in-Some.last ∷ []) in
    omega (arith, n, m, k, less, more)

pub squeues-preserved : goal.squeues-preserved
squeues-preserved g c =
    let i = c.squeues.invariant in
    let w : ServedShard g.row.X.Denot = record { shared = c.finish-shared.result; end = c.in-Some.last.end } in
    let turned : reverse c.push_reserved.new.self.items ≡ w ∷ reverse c.squeues.served.items = ap reverse c.push_reserved.ensures.items ∙ reverse-append c.squeues.served.items (w ∷ []) in
    let room = i.column_room in
    record {
      so_far = subst (SoFar c.args.rows.items c.args.left.items c.pop.new.self.items c.take_column.new.rows.items) (sym turned)
          (one_ended c.args.rows.items c.args.left.items c.squeues.left.items c.pop.new.self.items c.in-Some.last c.squeues.rows.items (reverse c.squeues.served.items) c.in-Some.ensures.items i.so_far
          c.take_column.new.rows.items c.take_column.new.column.items c.take_column.ensures.taken w c.finish-shared.ensures.finished c.finish-shared.ensures.origin refl);
      column = c.finish-shared.ensures.none;
      column_room = omega (arith, room, c.finish-shared.ensures.kept, c.take_column.ensures.capacity);
      room = let r = i.room in omega (arith, r, c.push_reserved.ensures.capacity);
    }

pub returns : goal.returns
returns g c =
    let empty : c.squeues.left.items ≡ [] = search rules in
    subst (AreEnded c.args.rows.items c.args.left.items) (sym c.reverse.ensures.items) (all_ended c.args.rows.items c.args.left.items c.squeues.left.items c.squeues.rows.items (reverse c.squeues.served.items) empty c.squeues.invariant.so_far)
