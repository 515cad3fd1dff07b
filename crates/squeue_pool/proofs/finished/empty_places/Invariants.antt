use Rattle.std.proofs.Common.{◌≡◌, ◌≤◌, length, vec_capacity}
use Rattle.squeue_pool.specs.Finishing.{AreEmpty}
use Rattle.squeue_pool.proofs.finished.empty_places.Given as goal

abbrev pub invariant-loop : goal.invariant-loop
invariant-loop g l = record { count : length l.places.items ≡ l.counter; room : l.conns ≤ vec_capacity l.places; empty : AreEmpty l.places.items }
