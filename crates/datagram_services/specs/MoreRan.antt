-- How a run ends: by its status, what was read, what was written, and which line was told.
use Rattle.std.specs.Prelude.{◌≡◌, List, ℕ, Option, Some, None, ◌⊎◌}
use Rattle.std.specs.Io.KnownBytes.{Appends}
use Rattle.sq_base.specs.Ends.{AppendsProperly, End, IsUntouched, MetNoFault, Rose}
use Rattle.sq_base.specs.declared.kinds.Status.{Status}
use Rattle.sq_base.specs.declared.kinds.Status.TheVariants as status
use Rattle.capture_reader.specs.Outcome.{CaptureFile, TakesTooMany}
use Rattle.capture_reader.specs.declared.fault.CaptureFault.{CaptureFault}
use Rattle.capture_reader.specs.declared.fault.CaptureFault.TheVariants as fault
use Rattle.pcapng_reader.specs.Input.{IsInput, IsRefusedCapture, IsRefusedPcapng}
use Rattle.pcapng_reader.specs.declared.fault.PcapngFault.{PcapngFault}
use Rattle.pcapng_reader.specs.declared.fault.PcapngFault.TheVariants as pcapng
use Rattle.ring_quotas.specs.declared.setup.Setup.{Setup}
use Rattle.shell.specs.Reading.{HasRead, IsBad, IsBadPcapng, Reads, ReadsSuch}
use Rattle.datagram_services.specs.MoreText.{more_text}
use Rattle.shell.specs.Lines.{bad_line, many_bytes_line, many_records_line, memory_line, pcapng_line, read_line, write_line}
use Rattle.shell.specs.Telling.{OnlyTells, TellsLine}
use Rattle.datagram_services.specs.RefusalLines.{sqmore, usage_line}

-- the report was written whole, and no write failed
abbrev pub GetsReport : CaptureFile → End → Type 0
GetsReport file out = Appends out.was out.is (more_text file) × MetNoFault out

-- a write failed: a front of the report was written, and not all of it
abbrev pub GetsFrontOfReport : CaptureFile → End → Type 0
GetsFrontOfReport file out = AppendsProperly out.was out.is (more_text file) × Rose out.faults_were out.faults_are

-- refused words
abbrev pub MoreRefused : End → End → Status → Type 0
MoreRefused out err status.Usage = OnlyTells out err usage_line
MoreRefused out err status.NoMemory = OnlyTells out err (memory_line sqmore)
MoreRefused out err _ = ⊥

-- an input that was read: the setup decides nothing
abbrev pub MoreRead : End → End → End → Status → Type 0
MoreRead source out err status.Ok = (file : CaptureFile) × Reads source file × GetsReport file out × IsUntouched err
MoreRead source out err status.WriteFault = (file : CaptureFile) × Reads source file × GetsFrontOfReport file out × TellsLine err (write_line sqmore)
MoreRead source out err status.BadCapture =
    ((why : CaptureFault) × IsBad why × ReadsSuch (IsRefusedCapture why) source.was source.is × OnlyTells out err (bad_line sqmore why))
    ⊎ ((why : PcapngFault) × IsBadPcapng why × ReadsSuch (IsRefusedPcapng why) source.was source.is × OnlyTells out err (pcapng_line sqmore why))
MoreRead source out err status.TooLarge =
    (TakesTooMany source.was source.is × OnlyTells out err (many_bytes_line sqmore))
    ⊎ (ReadsSuch (IsRefusedCapture fault.TooManyRecords) source.was source.is × OnlyTells out err (many_records_line sqmore))
    ⊎ (ReadsSuch (IsRefusedPcapng pcapng.TooManyRecords) source.was source.is × OnlyTells out err (many_records_line sqmore))
MoreRead source out err status.ReadFault = OnlyTells out err (read_line sqmore)
MoreRead source out err status.NoMemory = OnlyTells out err (memory_line sqmore)
MoreRead source out err status.Usage = ⊥
MoreRead source out err status.NoConnection = ⊥

-- such a run; where the words are refused nothing was read
abbrev pub HasMoreRan : Option Setup → End → End → End → Status → Type 0
HasMoreRan None source out err s = IsUntouched source × MoreRefused out err s
HasMoreRan (Some setup) source out err s = HasRead source s × MoreRead source out err s

-- the words are accepted, and what a source has left is a capture within the size
abbrev pub MoreAccepts : Option Setup → Option (List ℕ) → Type 0
MoreAccepts None left = ⊥
MoreAccepts (Some setup) left = (file : CaptureFile) × (left ≡ Some file.bytes) × IsInput file
