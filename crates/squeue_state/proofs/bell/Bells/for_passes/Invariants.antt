use Rattle.std.proofs.Common.{◌≡◌, ◌≤◌, vec_len, vec_capacity}
use Rattle.squeue_state.proofs.bell.Bells.for_passes.Given as goal

abbrev pub invariant-loop-k : goal.invariant-loop-k
invariant-loop-k l = record { count : vec_len l.bells ≡ l._k; room : l.others ≤ vec_capacity l.bells }
