use Rattle.std.proofs.Common.{◌≡◌, vec_capacity}
use Rattle.shard_rings.specs.Columns.{AreTaken}
use Rattle.shard_rings.proofs.ending.take_column.Given as goal

abbrev pub invariant-loop-p : goal.invariant-loop-p
invariant-loop-p g l =
    record {
      taken : AreTaken l.p l.fn.rows.items l.rows.items l.column.items;
      kept : vec_capacity l.column ≡ vec_capacity l.fn.column;
    }
