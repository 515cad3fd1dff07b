use Rattle.std.proofs.Common.{◌≡◌, ◌≤◌, length}
use Rattle.std.specs.Prelude.{All, vec_capacity}
use Rattle.arrivals_bench.specs.Making.{items_in}
use Rattle.arrivals_bench.proofs.serving.sources_of.Given as goal

abbrev pub invariant-loop-number : goal.invariant-loop-number
invariant-loop-number l = record { so_far : length l.sources.items ≡ l.number; each : All (λ m. items_in m ≡ l.items) l.sources.items; room : l.producers ≤ vec_capacity l.sources }
