use Rattle.std.proofs.Common.{◌≡◌, ◌≤◌, ◌%◌, ◌==◌, length, map, vec_capacity}
use Rattle.std.specs.List.{range_with_len}
use Rattle.squeue_pool.proofs.placing.places_at.Given as goal

abbrev pub invariant-loop-c : goal.invariant-loop-c
invariant-loop-c g l = record { flags : l.starts.items ≡ map (λ c. c % l.squeues == l.q) (range_with_len 0 l.c); count : length l.starts.items ≡ l.c; room : l.count ≤ vec_capacity l.starts }
