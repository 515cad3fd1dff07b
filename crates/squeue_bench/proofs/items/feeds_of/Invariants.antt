use Rattle.std.proofs.Common.{◌≤◌}
use Rattle.std.specs.Prelude.{vec_capacity}
use Rattle.squeue_bench.specs.Rows.{IsRow}
use Rattle.squeue_bench.proofs.items.feeds_of.Given as goal

abbrev pub invariant-loop-n : goal.invariant-loop-n
invariant-loop-n l = record { so_far : IsRow l.key l.n l.feeds.items; room : l.items ≤ vec_capacity l.feeds }
