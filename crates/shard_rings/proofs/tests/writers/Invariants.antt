use Rattle.std.proofs.Common.{◌≡◌, ◌≤◌, length, vec_capacity}
use Rattle.shard_rings.proofs.tests.writers.Given as goal

abbrev pub invariant-rings : goal.invariant-rings
invariant-rings l = record { so_far : length l.writers.items ≡ l.number; room : l.rings ≤ vec_capacity l.writers }
