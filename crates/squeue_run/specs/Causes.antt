-- What the steps of a run say to each other: what was served and is to be written, or why nothing is.
use Rattle.std.specs.Prelude.{◌≡◌, ℕ, List, Option, Some, None, ◌⊎◌}
use Rattle.sq_base.specs.Ends.{Rose, End, IsUntouched, MetNoFault}
use Rattle.sq_base.specs.declared.kinds.Status.{Status}
use Rattle.sq_base.specs.declared.kinds.Status.TheVariants as status
use Rattle.capture_reader.specs.Outcome.{CaptureFile, BytesFail}
use Rattle.capture_reader.specs.declared.fault.CaptureFault.TheVariants as fault
use Rattle.pcapng_reader.specs.declared.fault.PcapngFault.TheVariants as pcapng
use Rattle.ring_threads.specs.Served.{ServedOf}
use Rattle.squeue_run.specs.Asked.{Asked}
use Rattle.squeue_run.specs.CallWords.{IsFirstMissing}
use Rattle.squeue_run.specs.declared.refusal.Refusal.{Refusal}
use Rattle.squeue_run.specs.declared.refusal.Refusal.TheVariants as refusal
use Rattle.squeue_run.specs.Lines.{many_marks_line, missing_line}
use Rattle.squeue_run.specs.Words.{sqrun, usage_line}
use Rattle.shell.specs.Lines.{memory_line}
use Rattle.shell.specs.Reading.{Reads, ReadsSuch, TakesFew}
use Rattle.shell.specs.Refusals.{CaptureTold, LineOrMemory, PcapngTold}
use Rattle.pcapng_reader.specs.Input.{IsRefusedCapture, IsRefusedPcapng}
use Rattle.squeue_run.specs.Output.{IsReport, IsSummary}
use Rattle.squeue_run.specs.Ran.{IsLongTrace, IsServable, conns_of}
use Rattle.shell.specs.Telling.{TellsLine}

-- the line and the status of a refusal
abbrev pub Told : Refusal → End → Status → Type 0
Told refusal.NoMemory err s = (s ≡ status.NoMemory) × TellsLine err (memory_line sqrun)
Told refusal.Usage err s = (s ≡ status.Usage) × TellsLine err usage_line
Told (refusal.Capture f) err s = CaptureTold sqrun f err s
Told (refusal.Pcapng f) err s = PcapngTold sqrun f err s
Told (refusal.NoConnection c conns) err s = LineOrMemory sqrun status.NoConnection (missing_line c conns) err s
Told (refusal.LongTrace n) err s = LineOrMemory sqrun status.TooLarge (many_marks_line n) err s

-- what was served in the replay of a capture, and what it writes, or why it gives nothing
abbrev pub Replays : CaptureFile → Asked → ServedOf → List ℕ → Type 0
Replays file a v text = IsServable file a × IsReport file a v text

abbrev pub ReplayFails : CaptureFile → Asked → Refusal → Type 0
ReplayFails file a refusal.NoMemory = Unit {0}
ReplayFails file a refusal.Usage = ⊥
ReplayFails file a (refusal.Capture f) = ⊥
ReplayFails file a (refusal.Pcapng f) = ⊥
ReplayFails file a (refusal.NoConnection c conns) = (conns ≡ conns_of file a) × IsFirstMissing conns c a.calls
ReplayFails file a (refusal.LongTrace n) = IsLongTrace file a n

-- why a generated run gives nothing
abbrev pub GeneratedFails : Refusal → Type 0
GeneratedFails refusal.NoMemory = Unit {0}
GeneratedFails refusal.Usage = ⊥
GeneratedFails (refusal.Capture f) = f ≡ fault.NoMemory
GeneratedFails (refusal.Pcapng f) = ⊥
GeneratedFails (refusal.NoConnection c conns) = ⊥
GeneratedFails (refusal.LongTrace n) = ⊥

-- why bytes within the size are no capture
abbrev pub InputFails : List ℕ → Refusal → Type 0
InputFails bytes refusal.NoMemory = Unit {0}
InputFails bytes refusal.Usage = ⊥
InputFails bytes (refusal.Capture f) = (f ≡ fault.NoMemory) ⊎ IsRefusedCapture f bytes
InputFails bytes (refusal.Pcapng f) = (f ≡ pcapng.NoMemory) ⊎ IsRefusedPcapng f bytes
InputFails bytes (refusal.NoConnection c conns) = ⊥
InputFails bytes (refusal.LongTrace n) = ⊥

-- why an input that is read gives nothing
abbrev pub ReadingFails : Asked → End → Refusal → Type 0
ReadingFails a source refusal.NoMemory = Unit {0}
ReadingFails a source refusal.Usage = ⊥
ReadingFails a source (refusal.Capture f) = BytesFail source.was source.is f ⊎ ReadsSuch (IsRefusedCapture f) source.was source.is
ReadingFails a source (refusal.Pcapng f) = (f ≡ pcapng.NoMemory) ⊎ ReadsSuch (IsRefusedPcapng f) source.was source.is
ReadingFails a source (refusal.NoConnection c conns) = (file : CaptureFile) × Reads source file × ReplayFails file a (refusal.NoConnection c conns)
ReadingFails a source (refusal.LongTrace n) = (file : CaptureFile) × Reads source file × ReplayFails file a (refusal.LongTrace n)

-- the source's count rose exactly where a read fault is the cause
abbrev pub CountsFaults : End → Refusal → Type 0
CountsFaults source (refusal.Capture fault.Read) = Rose source.faults_were source.faults_are
CountsFaults source _ = MetNoFault source

-- what was served and is to be written for accepted words, or why nothing is
abbrev pub GivesBy : Option ℕ → Asked → End → ServedOf → List ℕ → Type 0
GivesBy (Some number) a source v text = IsUntouched source × IsSummary number a v text
GivesBy None a source v text = MetNoFault source × TakesFew source × ((file : CaptureFile) × Reads source file × Replays file a v text)

abbrev pub FailsBy : Option ℕ → Asked → End → Refusal → Type 0
FailsBy (Some number) a source why = IsUntouched source × GeneratedFails why
FailsBy None a source why = CountsFaults source why × TakesFew source × ReadingFails a source why

-- what was served and is to be written for these words, or why nothing is
abbrev pub Gives : Option Asked → End → ServedOf → List ℕ → Type 0
Gives None source v text = ⊥
Gives (Some a) source v text = GivesBy a.number a source v text

abbrev pub RefusedWords : Refusal → Type 0
RefusedWords refusal.NoMemory = Unit {0}
RefusedWords refusal.Usage = Unit {0}
RefusedWords (refusal.Capture f) = ⊥
RefusedWords (refusal.Pcapng f) = ⊥
RefusedWords (refusal.NoConnection c conns) = ⊥
RefusedWords (refusal.LongTrace n) = ⊥

abbrev pub Fails : Option Asked → End → Refusal → Type 0
Fails None source why = IsUntouched source × RefusedWords why
Fails (Some a) source why = FailsBy a.number a source why
