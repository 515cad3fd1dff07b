use Rattle.std.proofs.Common.{◌≡◌, ◌≤◌, length}
use Rattle.std.specs.Prelude.{All, vec_capacity}
use Rattle.squeue_bench.proofs.items.amounts_of.Given as goal

abbrev pub invariant-loop-key : goal.invariant-loop-key
invariant-loop-key l = record { so_far : length l.amounts.items ≡ l.key; each : All (λ row. length row.items ≡ l.items) l.amounts.items; room : l.keys ≤ vec_capacity l.amounts }
