-- What the calls of this crate answer: a capture within the size, or why there is none.
use Rattle.std.specs.Prelude.{ℕ, ◌≡◌, ◌≤◌, ◌+◌, ◌<◌, Bool, List, Option, length, drop, take}
use Rattle.std.specs.List.{AllByRecursion}
use Rattle.std.specs.Io.KnownBytes.{Consumes, IsAtEnd}
use Rattle.sq_base.specs.declared.kinds.Link.{Link}
use Rattle.capture_reader.specs.declared.capture.Record.{Record}
use Rattle.capture_reader.specs.declared.fault.CaptureFault.{CaptureFault}
use Rattle.capture_reader.specs.declared.fault.CaptureFault.TheVariants as fault
use Rattle.capture_reader.specs.Limits.{most_bytes, most_taken, latest_time, longest_body}
use Rattle.capture_reader.specs.CaptureFile.{Packet, Contents, Captured, Refused}

-- a capture as its readers see it: the file's bytes, and what they say
pub record CaptureFile : Type 0 where
  pub bytes : List ℕ
  pub link : Link
  pub packets : List Packet
  pub cut : Bool

abbrev pub contents_of : CaptureFile → Contents
contents_of file = record { link = file.link; packets = file.packets; cut = file.cut }

-- the packet that a record names: its time, and a place in the file's bytes
abbrev pub packet_at : List ℕ → Record → Packet
packet_at bytes r = record { time = r.at; from = r.from; body = take r.len (drop r.from bytes) }

-- the body lies in the bytes, and the time is at most the greatest
pub record IsInside (bytes : List ℕ) (r : Record) : Type 0 where
  pub room : r.from + r.len ≤ length bytes
  pub time : r.at ≤ latest_time

-- the file's bytes say this, and are at most 64 MiB
pub record IsCapture (file : CaptureFile) : Type 0 where
  pub small : length file.bytes ≤ most_bytes
  pub captured : Captured file.bytes (contents_of file)

-- the bytes are within the size, and refused for this cause
abbrev pub IsRefused : List ℕ → CaptureFault → Type 0
IsRefused bytes f = (length bytes ≤ most_bytes) × Refused bytes f

-- each packet of a capture that was read is within the limit
abbrev pub HasShortBodies : CaptureFile → Type 0
HasShortBodies file = AllByRecursion (λ p. length p.body ≤ longest_body) file.packets

-- why bytes gave no capture
abbrev pub ParseFails : List ℕ → CaptureFault → Type 0
ParseFails bytes fault.NoMemory = Unit {0}
ParseFails bytes (fault.TooLarge n) = (n ≡ length bytes) × (most_bytes < n)
ParseFails bytes fault.Read = ⊥
ParseFails bytes (fault.ShortHeader n) = IsRefused bytes (fault.ShortHeader n)
ParseFails bytes (fault.Magic magic) = IsRefused bytes (fault.Magic magic)
ParseFails bytes (fault.Version major minor) = IsRefused bytes (fault.Version major minor)
ParseFails bytes (fault.Link n) = IsRefused bytes (fault.Link n)
ParseFails bytes (fault.RecordLength index len) = IsRefused bytes (fault.RecordLength index len)
ParseFails bytes fault.TooManyRecords = IsRefused bytes fault.TooManyRecords

-- what was left of a source was read to its end: these bytes
pub record ReadsWhole (old new : Option (List ℕ)) (bytes : List ℕ) : Type 0 where
  pub taken : Consumes old new bytes
  pub ended : IsAtEnd new

-- bytes were taken from a source, and of their count this holds
pub record Takes (Count : ℕ → Type 0) (old new : Option (List ℕ)) : Type 0 where
  pub bytes : List ℕ
  pub taken : Consumes old new bytes
  pub count : Count (length bytes)

-- one byte more than the size was taken
abbrev pub TakesTooMany : Option (List ℕ) → Option (List ℕ) → Type 0
TakesTooMany old new = Takes (λ n. n ≡ most_taken) old new

-- why not all bytes of a source were read that may give so many: a fault, want of memory, or one byte more, and nothing else
abbrev pub FailsWithin : ℕ → Option (List ℕ) → Option (List ℕ) → CaptureFault → Type 0
FailsWithin most old new fault.Read = Takes (λ n. n ≤ most) old new
FailsWithin most old new fault.NoMemory = Unit {0}
FailsWithin most old new (fault.TooLarge n) = (n ≡ most + 1) × Takes (λ k. k ≡ most + 1) old new
FailsWithin most old new _ = ⊥

-- the same within the size of a capture
abbrev pub BytesFail : Option (List ℕ) → Option (List ℕ) → CaptureFault → Type 0
BytesFail = FailsWithin most_bytes

-- the source was read to its end, and its bytes are refused for this cause
abbrev pub ReadsRefused : Option (List ℕ) → Option (List ℕ) → CaptureFault → Type 0
ReadsRefused old new f = (bytes : List ℕ) × ReadsWhole old new bytes × IsRefused bytes f

-- why what a source gave is no capture
abbrev pub ReadFails : Option (List ℕ) → Option (List ℕ) → CaptureFault → Type 0
ReadFails old new fault.Read = Takes (λ n. n ≤ most_bytes) old new
ReadFails old new fault.NoMemory = Unit {0}
ReadFails old new (fault.TooLarge n) = (n ≡ most_taken) × TakesTooMany old new
ReadFails old new (fault.ShortHeader n) = ReadsRefused old new (fault.ShortHeader n)
ReadFails old new (fault.Magic magic) = ReadsRefused old new (fault.Magic magic)
ReadFails old new (fault.Version major minor) = ReadsRefused old new (fault.Version major minor)
ReadFails old new (fault.Link n) = ReadsRefused old new (fault.Link n)
ReadFails old new (fault.RecordLength index len) = ReadsRefused old new (fault.RecordLength index len)
ReadFails old new fault.TooManyRecords = ReadsRefused old new fault.TooManyRecords
