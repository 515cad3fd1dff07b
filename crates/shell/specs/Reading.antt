-- What a run has read of its source, and which refusals of what was read are those of a bad capture.
use Rattle.std.specs.Prelude.{◌≤◌, ℕ, List, Option}
use Rattle.sq_base.specs.Ends.{End, MetNoFault, Rose}
use Rattle.sq_base.specs.declared.kinds.Status.{Status}
use Rattle.sq_base.specs.declared.kinds.Status.TheVariants as status
use Rattle.capture_reader.specs.Limits.{most_taken}
use Rattle.capture_reader.specs.Outcome.{CaptureFile, ReadsWhole, Takes}
use Rattle.capture_reader.specs.declared.fault.CaptureFault.{CaptureFault}
use Rattle.capture_reader.specs.declared.fault.CaptureFault.TheVariants as fault
use Rattle.pcapng_reader.specs.Input.{IsInput}
use Rattle.pcapng_reader.specs.declared.fault.PcapngFault.{PcapngFault}
use Rattle.pcapng_reader.specs.declared.fault.PcapngFault.TheVariants as pcapng

-- a source was read to its end, and of its bytes this holds
abbrev pub ReadsSuch : (List ℕ → Type 0) → Option (List ℕ) → Option (List ℕ) → Type 0
ReadsSuch Such was is = (bytes : List ℕ) × ReadsWhole was is bytes × Such bytes

-- at most one byte more than the size was taken
abbrev pub TakesFew : End → Type 0
TakesFew source = Takes (λ n. n ≤ most_taken) source.was source.is

-- the source was read to its end: this capture, within the size
pub record Reads (source : End) (file : CaptureFile) : Type 0 where
  pub read : ReadsWhole source.was source.is file.bytes
  pub capture : IsInput file

-- which refusals of a capture are a bad one
abbrev pub IsBad : CaptureFault → Type 0
IsBad (fault.ShortHeader n) = Unit {0}
IsBad (fault.Magic magic) = Unit {0}
IsBad (fault.Version major minor) = Unit {0}
IsBad (fault.Link n) = Unit {0}
IsBad (fault.RecordLength index len) = Unit {0}
IsBad fault.TooManyRecords = ⊥
IsBad (fault.TooLarge n) = ⊥
IsBad fault.Read = ⊥
IsBad fault.NoMemory = ⊥

-- and which of a pcapng file
abbrev pub IsBadPcapng : PcapngFault → Type 0
IsBadPcapng pcapng.NoMemory = ⊥
IsBadPcapng pcapng.TooManyRecords = ⊥
IsBadPcapng _ = Unit {0}

-- At a read fault, and only there, a read failed. However the run ended, few bytes were taken.
abbrev pub HasRead : End → Status → Type 0
HasRead source status.ReadFault = Rose source.faults_were source.faults_are × TakesFew source
HasRead source _ = MetNoFault source × TakesFew source

-- the whole output was written, or memory was missing
abbrev pub IsDone : Status → Type 0
IsDone status.Ok = Unit {0}
IsDone status.NoMemory = Unit {0}
IsDone _ = ⊥
