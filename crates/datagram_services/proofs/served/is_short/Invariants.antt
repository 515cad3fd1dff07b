use Rattle.std.proofs.Common.{◌≡◌, ℕ, ◌<◌, false, Some, slice_get}
use Rattle.datagram_services.specs.declared.block.StreamBlock.{StreamBlock}
use Rattle.datagram_services.proofs.served.is_short.Given as goal

abbrev pub invariant-loop-c : goal.invariant-loop-c
invariant-loop-c l = (k : ℕ) (block : StreamBlock) → k < l.c → slice_get l.finished.parts k ≡ Some (Some block) → block.short ≡ false
