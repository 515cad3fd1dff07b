-- What the steps of a run say to each other: what was written, or why no whole report was.
use Rattle.std.specs.Prelude.{◌≡◌, Option, Some, None, ◌⊎◌}
use Rattle.sq_base.specs.Ends.{Rose, End, IsUntouched, MetNoFault}
use Rattle.sq_base.specs.declared.kinds.Status.{Status}
use Rattle.sq_base.specs.declared.kinds.Status.TheVariants as status
use Rattle.capture_reader.specs.Outcome.{CaptureFile, BytesFail}
use Rattle.capture_reader.specs.declared.fault.CaptureFault.TheVariants as fault
use Rattle.pcapng_reader.specs.Input.{IsRefusedCapture, IsRefusedPcapng}
use Rattle.pcapng_reader.specs.declared.fault.PcapngFault.TheVariants as pcapng
use Rattle.pcapng_reader.specs.declared.input.InputFault.TheVariants as input
use Rattle.ring_quotas.specs.declared.setup.Setup.{Setup}
use Rattle.shell.specs.Reading.{Reads, ReadsSuch, TakesFew}
use Rattle.datagram_services.specs.declared.refusal.Refusal.{Refusal}
use Rattle.datagram_services.specs.declared.refusal.Refusal.TheVariants as refusal
use Rattle.datagram_services.specs.MoreRan.{GetsFrontOfReport, GetsReport}
use Rattle.shell.specs.Lines.{memory_line, write_line}
use Rattle.shell.specs.Refusals.{CaptureTold, PcapngTold}
use Rattle.shell.specs.Telling.{TellsLine}
use Rattle.datagram_services.specs.RefusalLines.{sqmore, usage_line}

-- the line and the status of a refusal
abbrev pub MoreTold : Refusal → End → Status → Type 0
MoreTold refusal.NoMemory err s = (s ≡ status.NoMemory) × TellsLine err (memory_line sqmore)
MoreTold refusal.Usage err s = (s ≡ status.Usage) × TellsLine err usage_line
MoreTold (refusal.Input (input.Capture f)) err s = CaptureTold sqmore f err s
MoreTold (refusal.Input (input.Pcapng f)) err s = PcapngTold sqmore f err s
MoreTold refusal.Write err s = (s ≡ status.WriteFault) × TellsLine err (write_line sqmore)

-- why no whole report of a capture was written; nothing was written unless a write failed
abbrev pub ReportFails : CaptureFile → End → Refusal → Type 0
ReportFails file out refusal.NoMemory = IsUntouched out
ReportFails file out refusal.Usage = ⊥
ReportFails file out (refusal.Input f) = ⊥
ReportFails file out refusal.Write = GetsFrontOfReport file out

-- and why none of an input that is read
abbrev pub ReadingFails : End → End → Refusal → Type 0
ReadingFails source out refusal.NoMemory = IsUntouched out
ReadingFails source out refusal.Usage = ⊥
ReadingFails source out (refusal.Input (input.Capture f)) =
    IsUntouched out × (BytesFail source.was source.is f ⊎ ReadsSuch (IsRefusedCapture f) source.was source.is)
ReadingFails source out (refusal.Input (input.Pcapng f)) = IsUntouched out × ((f ≡ pcapng.NoMemory) ⊎ ReadsSuch (IsRefusedPcapng f) source.was source.is)
ReadingFails source out refusal.Write = (file : CaptureFile) × Reads source file × GetsFrontOfReport file out

-- the source's count rose exactly where a read fault is the cause
abbrev pub CountsFaults : End → Refusal → Type 0
CountsFaults source (refusal.Input (input.Capture fault.Read)) = Rose source.faults_were source.faults_are
CountsFaults source _ = MetNoFault source

-- the report was written of an input that is read, or why no whole one was
abbrev pub ReadGives : End → End → Type 0
ReadGives source out = MetNoFault source × TakesFew source × ((file : CaptureFile) × Reads source file × GetsReport file out)

abbrev pub ReadFails : End → End → Refusal → Type 0
ReadFails source out why = CountsFaults source why × TakesFew source × ReadingFails source out why

abbrev pub RefusedWords : Refusal → Type 0
RefusedWords refusal.NoMemory = Unit {0}
RefusedWords refusal.Usage = Unit {0}
RefusedWords (refusal.Input f) = ⊥
RefusedWords refusal.Write = ⊥

-- the report was written for these words, or why no whole one was
abbrev pub MoreGives : Option Setup → End → End → Type 0
MoreGives None source out = ⊥
MoreGives (Some setup) source out = ReadGives source out

abbrev pub MoreFails : Option Setup → End → End → Refusal → Type 0
MoreFails None source out why = IsUntouched source × IsUntouched out × RefusedWords why
MoreFails (Some setup) source out why = ReadFails source out why
