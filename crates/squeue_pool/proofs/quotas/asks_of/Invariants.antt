use Rattle.std.proofs.Common.{◌≡◌, ◌≤◌, ◌*◌, take}
use Rattle.squeue_pool.specs.Quotas.{asks_of}
use Rattle.squeue_pool.proofs.quotas.asks_of.Given as goal

abbrev pub invariant-loop-c : goal.invariant-loop-c
invariant-loop-c l = (l.asks ≡ asks_of l.counts (take l.c-index l.called)) × (l.asks ≤ l.c-index * 4294967296)
