use Rattle.std.proofs.Common.{◌≡◌, ◌≤◌, true, replicate, vec_capacity}
use Rattle.placed_parts.proofs.places.Places.make.Given as goal

abbrev pub invariant-loop-c : goal.invariant-loop-c
invariant-loop-c g l = record { items : l.starts.items ≡ replicate l._c true; room : l.count ≤ vec_capacity l.starts }
