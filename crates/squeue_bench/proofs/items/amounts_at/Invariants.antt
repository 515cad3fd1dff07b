use Rattle.std.proofs.Common.{◌≡◌, ◌≤◌, length}
use Rattle.std.specs.Prelude.{vec_capacity}
use Rattle.squeue_bench.proofs.items.amounts_at.Given as goal

abbrev pub invariant-loop-n : goal.invariant-loop-n
invariant-loop-n l = record { so_far : length l.amounts.items ≡ l.n; room : l.items ≤ vec_capacity l.amounts }
