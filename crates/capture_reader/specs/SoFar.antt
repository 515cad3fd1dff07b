-- How far a reader has come: what the private functions say of places in the bytes. No public clause speaks of it.
use Rattle.std.specs.Prelude.{◌≡◌, ℕ, ◌+◌, ◌<◌, ◌≤◌, List, ◌++◌, length, drop, take, map}
use Rattle.std.specs.List.{concat, AllByRecursion}
use Rattle.capture_reader.specs.declared.form.Form.{Form}
use Rattle.capture_reader.specs.declared.capture.Record.{Record}
use Rattle.capture_reader.specs.declared.fault.CaptureFault.{CaptureFault}
use Rattle.capture_reader.specs.declared.fault.CaptureFault.TheVariants as fault
use Rattle.capture_reader.specs.Limits.{most_records, header_size}
use Rattle.capture_reader.specs.CaptureFile.{IsSpelling, packets_of, IsTooLong}
use Rattle.capture_reader.specs.Outcome.{packet_at, IsInside}

-- the front up to a place is the header and spellings, and the records name their packets
pub record ReadsTo (form : Form) (bytes : List ℕ) (at : ℕ) (records : List Record) : Type 0 where
  pub pieces : List (List ℕ)
  pub within : at ≤ length bytes
  pub place : at ≡ header_size + length (concat pieces)
  pub front : take at bytes ≡ take header_size bytes ++ concat pieces
  pub spelled : AllByRecursion (IsSpelling form) pieces
  pub counted : length pieces ≡ length records
  pub named : map (packet_at bytes) records ≡ packets_of form header_size pieces
  pub inside : AllByRecursion (IsInside bytes) records

-- a place where reading stops, and what is behind it
pub record StopsAt (form : Form) (bytes : List ℕ) (records : List Record) (Rest : List ℕ → Type 0) : Type 0 where
  pub at : ℕ
  pub read : ReadsTo form bytes at records
  pub there : Rest (drop at bytes)

-- why the packets can't be read
abbrev pub Fails : Form → List ℕ → CaptureFault → Type 0
Fails form bytes fault.NoMemory = Unit {0}
Fails form bytes (fault.RecordLength index len) =
    (records : List Record) × (length records ≡ index) × (index < most_records) × StopsAt form bytes records (IsTooLong len form)
Fails form bytes fault.TooManyRecords = (records : List Record) × (length records ≡ most_records) × StopsAt form bytes records (λ rest. 0 < length rest)
Fails form bytes fault.Read = ⊥
Fails form bytes (fault.TooLarge n) = ⊥
Fails form bytes (fault.ShortHeader n) = ⊥
Fails form bytes (fault.Magic m) = ⊥
Fails form bytes (fault.Version major minor) = ⊥
Fails form bytes (fault.Link n) = ⊥
