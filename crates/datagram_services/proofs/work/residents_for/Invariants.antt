use Rattle.std.proofs.Common.{◌≡◌, ℕ, Some, length, slice_get}
use Rattle.datagram_services.specs.declared.blocks.StreamBlocks.{StreamBlocks}
use Rattle.datagram_services.specs.Work.{IsFirst}
use Rattle.datagram_services.proofs.work.residents_for.Given as goal

abbrev pub invariant-loop-q : goal.invariant-loop-q
invariant-loop-q l =
    record { count : length l.residents.items ≡ l.q; each : (q : ℕ) (r : StreamBlocks) → slice_get l.residents.items q ≡ Some r → IsFirst l.plan l.squeues q r }
