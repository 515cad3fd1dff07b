use Rattle.std.proofs.Common.{◌≡◌, ◌≤◌, false, vec_capacity}
use Rattle.std.specs.Prelude.{replicate}
use Rattle.squeue_state.proofs.room.flags.Given as goal

abbrev pub invariant-loop-k : goal.invariant-loop-k
invariant-loop-k l = record { items : l.flags.items ≡ replicate l._k false; room : l.n ≤ vec_capacity l.flags }
