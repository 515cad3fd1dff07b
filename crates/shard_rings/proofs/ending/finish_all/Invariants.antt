use Rattle.std.proofs.Common.{◌≡◌, ◌≤◌, [], length, reverse, vec_capacity}
use Rattle.shard_rings.proofs.Finishing.{SoFar}
use Rattle.shard_rings.proofs.ending.finish_all.Given as goal

abbrev pub invariant-squeues : goal.invariant-squeues
invariant-squeues g l =
    record {
      so_far : SoFar l.fn.rows.items l.fn.left.items l.left.items l.rows.items (reverse l.served.items);
      column : l.column.items ≡ [];
      column_room : length l.fn.rows.items ≤ vec_capacity l.column;
      room : length l.fn.left.items ≤ vec_capacity l.served;
    }

abbrev pub decreases-squeues : goal.decreases-squeues
decreases-squeues g l = length l.left.items
