-- Which fault is told, and which statuses end a run well.
use Rattle.std.proofs.Common.{◌≡◌, ap, Bool, true, false}
use Rattle.pcapng_reader.specs.declared.fault.PcapngFault.{PcapngFault}
use Rattle.pcapng_reader.specs.declared.fault.PcapngFault.TheVariants as pcapng

-- memory isn't missing where another fault is told
abbrev is_memory : PcapngFault → Bool
is_memory pcapng.NoMemory = true
is_memory _ = false

pub no_memory_told : (f : PcapngFault) → is_memory f ≡ false → f ≡ pcapng.NoMemory → ⊥
no_memory_told f other e = let is : is_memory f ≡ true = ap is_memory e in cc
