use Rattle.std.proofs.Common.{◌≡◌, ◌++◌, ◌≤◌, ◌+◌, ◌-◌, take, length, vec_len, vec_capacity}
use Rattle.squeue_state.proofs.room.append.Given as goal

abbrev pub invariant-loop-e : goal.invariant-loop-e
invariant-loop-e l =
    record {
      room : vec_len l.chain + (length l.es - l.e-index) ≤ vec_capacity l.chain;
      same : vec_capacity l.chain ≡ vec_capacity l.initial.chain;
      chain : l.chain.items ≡ l.initial.chain.items ++ take l.e-index l.es;
    }
