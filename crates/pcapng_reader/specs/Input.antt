-- A capture in the form that its first four bytes name: a pcapng file begins with a section header, and all else is read as a capture file.
use Rattle.std.specs.Prelude.{◌≡◌, ℕ, ◌≤◌, ◌⊎◌, List, length}
use Rattle.capture_reader.specs.Limits.{most_bytes}
use Rattle.capture_reader.specs.Outcome.{CaptureFile, IsCapture, IsRefused}
use Rattle.capture_reader.specs.declared.fault.CaptureFault.{CaptureFault}
use Rattle.capture_reader.specs.declared.fault.CaptureFault.TheVariants as capture
use Rattle.pcapng_reader.specs.PcapngFile.{BeginsSection, IsPcapng, Refused}
use Rattle.pcapng_reader.specs.declared.fault.PcapngFault.{PcapngFault}
use Rattle.pcapng_reader.specs.declared.fault.PcapngFault.TheVariants as pcapng
use Rattle.pcapng_reader.specs.declared.input.InputFault.{InputFault}
use Rattle.pcapng_reader.specs.declared.input.InputFault.TheVariants as input

-- a capture in one of the two forms
abbrev pub IsInput : CaptureFile → Type 0
IsInput file = IsPcapng file ⊎ ((BeginsSection file.bytes → ⊥) × IsCapture file)

-- bytes within the size that are refused as a capture file
abbrev pub IsRefusedCapture : CaptureFault → List ℕ → Type 0
IsRefusedCapture f bytes = (BeginsSection bytes → ⊥) × IsRefused bytes f

-- bytes within the size that are refused as a pcapng file
abbrev pub IsRefusedPcapng : PcapngFault → List ℕ → Type 0
IsRefusedPcapng f bytes = BeginsSection bytes × (length bytes ≤ most_bytes) × Refused bytes f

-- why bytes within the size are no capture of either form
abbrev pub InputFails : List ℕ → InputFault → Type 0
InputFails bytes (input.Capture f) = (f ≡ capture.NoMemory) ⊎ IsRefusedCapture f bytes
InputFails bytes (input.Pcapng f) = (f ≡ pcapng.NoMemory) ⊎ IsRefusedPcapng f bytes
