use Rattle.std.proofs.Common.{◌≡◌, ◌++◌, ◌≤◌, ◌+◌, ◌-◌, take, length, vec_len, vec_capacity}
use Rattle.perimeter_core.specs.Deeds.{entries}
use Rattle.squeue_state.proofs.room.queue_feeds.Given as goal

abbrev pub invariant-loop-f : goal.invariant-loop-f
invariant-loop-f l =
    record {
      room : vec_len l.chain + (length l.es - l.f-index) ≤ vec_capacity l.chain;
      same : vec_capacity l.chain ≡ vec_capacity l.initial.chain;
      chain : l.chain.items ≡ l.initial.chain.items ++ entries (take l.f-index l.es);
    }
