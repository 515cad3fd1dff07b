-- A ring as a source.
use Rattle.std.specs.Prelude.{ℕ, unwrap_or}
use Rattle.std.proofs.Common.{Global}
use Rattle.rtrb.specs.declared.AnyItems.{AnyItems}
use Rattle.rtrb.specs.declared.consumer.Consumer.{Consumer}
use Rattle.squeue_arrivals.specs.declared.piped.Piped.{Piped}

-- the end of the ring, or what it was when it was stopped
abbrev pub end_of : {T : Type 0} → Piped T → Consumer (ℕ × T) Global AnyItems
end_of s = unwrap_or s.input s.last.value
