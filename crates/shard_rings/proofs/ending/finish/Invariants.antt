use Rattle.std.proofs.Common.{◌≡◌, ◌≤◌}
use Rattle.std.specs.Prelude.{length, vec_capacity}
use Rattle.shards.specs.Merging.{IsMerged}
use Rattle.shards.specs.Sharing.{ends_of, origin_of, rings_of, shared_of}
use Rattle.shard_rings.proofs.Columns.{SoFar}
use Rattle.shard_rings.proofs.ending.finish.Given as goal

abbrev pub invariant-cells : goal.invariant-cells
invariant-cells g l =
    record {
      so_far : SoFar l.fn.column.items l.column.items (ends_of l.initial.shard) (ends_of l.shard);
      few : length l.column.items ≤ length l.fn.column.items;
      rings : rings_of l.shard ≡ rings_of l.initial.shard;
      origin : origin_of l.shard ≡ origin_of l.initial.shard;
      merged : IsMerged g.X.Shared.is_made (ends_of l.shard) (shared_of l.shard);
      kept : vec_capacity l.column ≡ vec_capacity l.fn.column;
    }

abbrev pub decreases-cells : goal.decreases-cells
decreases-cells g l = length l.column.items
