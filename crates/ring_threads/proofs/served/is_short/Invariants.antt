use Rattle.std.proofs.Common.{◌≡◌, ℕ, ◌<◌, false, Box, Some, slice_get}
use Rattle.std.specs.declared.alloc.Global.{Global}
use Rattle.conn_blocks.specs.ServeOrder.{BlockOf}
use Rattle.ring_threads.proofs.served.is_short.Given as goal

abbrev pub invariant-loop-c : goal.invariant-loop-c
invariant-loop-c l = (k : ℕ) (b : Box BlockOf Global) → k < l.c → slice_get l.finished.parts k ≡ Some (Some b) → b.value.short ≡ false
