-- How a run ends: by its status, what was read, what was written, which line was told, and what is handed back.
use Rattle.std.specs.Prelude.{◌≡◌, ◌<◌, ◌≤◌, ℕ, true, List, Option, Some, None, length, ◌⊎◌}
use Rattle.std.specs.Io.KnownBytes.{Appends}
use Rattle.sq_base.specs.Ends.{AppendsProperly, End, IsUntouched, MetNoFault, Rose}
use Rattle.sq_base.specs.declared.kinds.Status.{Status}
use Rattle.sq_base.specs.declared.kinds.Status.TheVariants as status
use Rattle.capture_reader.specs.Outcome.{CaptureFile, TakesTooMany}
use Rattle.capture_reader.specs.declared.fault.CaptureFault.{CaptureFault}
use Rattle.capture_reader.specs.declared.fault.CaptureFault.TheVariants as fault
use Rattle.pcapng_reader.specs.declared.fault.PcapngFault.{PcapngFault}
use Rattle.pcapng_reader.specs.declared.fault.PcapngFault.TheVariants as pcapng
use Rattle.ring_quotas.specs.Quotas.{marks_most}
use Rattle.ring_threads.specs.Served.{ServedOf}
use Rattle.squeue_run.specs.Asked.{Asked}
use Rattle.squeue_run.specs.CallWords.{AllThere, IsFirstMissing, lists_of}
use Rattle.pcapng_reader.specs.Input.{IsInput, IsRefusedCapture, IsRefusedPcapng}
use Rattle.squeue_run.specs.Output.{IsReport, IsSummary, plan_for}
use Rattle.squeue_run.specs.Limits.{most_marks}
use Rattle.shell.specs.Lines.{memory_line, read_line, write_line, bad_line, pcapng_line, many_bytes_line, many_records_line}
use Rattle.shell.specs.Reading.{HasRead, IsBad, IsBadPcapng, Reads, ReadsSuch}
use Rattle.shell.specs.Telling.{OnlyTells, TellsLine}
use Rattle.squeue_run.specs.Lines.{many_marks_line, missing_line}
use Rattle.squeue_run.specs.Words.{sqrun, usage_line}

-- such an output of what is handed back was written whole, and no write failed
pub record GetsWhole (IsOutput : ServedOf → List ℕ → Type 0) (out : End) (back : Option ServedOf) : Type 0 where
  pub served : ServedOf
  pub handed : back ≡ Some served
  pub text : List ℕ
  pub output : IsOutput served text
  pub written : Appends out.was out.is text
  pub unfailing : MetNoFault out

-- a write failed: a front of such an output was written, and not all of it
pub record GetsFront (IsOutput : ServedOf → List ℕ → Type 0) (out : End) : Type 0 where
  pub served : ServedOf
  pub text : List ℕ
  pub output : IsOutput served text
  pub written : AppendsProperly out.was out.is text
  pub failed : Rose out.faults_were out.faults_are

-- At status 0 what was served is handed back (GetsWhole), and at every other nothing is.
abbrev pub HandsBack : Option ServedOf → Status → Type 0
HandsBack back status.Ok = Unit {0}
HandsBack back _ = back ≡ None

-- how many connections the capture has
abbrev pub conns_of : CaptureFile → Asked → ℕ
conns_of file a = length (plan_for file a).tuples

-- how many marks the squeues of a run over this capture make at most
abbrev pub marks_in : CaptureFile → Asked → ℕ
marks_in file a = marks_most (plan_for file a) (lists_of a.calls) a.setup

-- each CALL's connection is there, and of a trace that is asked for the marks are within the limit
pub record IsServable (file : CaptureFile) (a : Asked) : Type 0 where
  pub there : AllThere (conns_of file a) a.calls
  pub marks : a.setup.trace ≡ true → marks_in file a ≤ most_marks

-- each CALL's connection is there, and a trace is asked for, of n marks, which is over the limit
pub record IsLongTrace (file : CaptureFile) (a : Asked) (n : ℕ) : Type 0 where
  pub there : AllThere (conns_of file a) a.calls
  pub asked : a.setup.trace ≡ true
  pub count : n ≡ marks_in file a
  pub many : most_marks < n

-- refused words
abbrev pub RanRefused : End → End → Status → Type 0
RanRefused out err status.Usage = OnlyTells out err usage_line
RanRefused out err status.NoMemory = OnlyTells out err (memory_line sqrun)
RanRefused out err _ = ⊥

-- an input that was generated for a number
abbrev pub RanGenerated : ℕ → Asked → End → End → Option ServedOf → Status → Type 0
RanGenerated number a out err back status.Ok = GetsWhole (IsSummary number a) out back × IsUntouched err
RanGenerated number a out err back status.WriteFault = GetsFront (IsSummary number a) out × TellsLine err (write_line sqrun)
RanGenerated number a out err back status.NoMemory = OnlyTells out err (memory_line sqrun)
RanGenerated number a out err back _ = ⊥

-- an input that was read
abbrev pub RanRead : Asked → End → End → End → Option ServedOf → Status → Type 0
RanRead a source out err back status.Ok =
    (file : CaptureFile) × Reads source file × IsServable file a × GetsWhole (IsReport file a) out back × IsUntouched err
RanRead a source out err back status.WriteFault =
    (file : CaptureFile) × Reads source file × IsServable file a × GetsFront (IsReport file a) out × TellsLine err (write_line sqrun)
RanRead a source out err back status.NoConnection =
    (file : CaptureFile) × Reads source file
    × ((c : ℕ) × IsFirstMissing (conns_of file a) c a.calls × OnlyTells out err (missing_line c (conns_of file a)))
RanRead a source out err back status.BadCapture =
    ((why : CaptureFault) × IsBad why × ReadsSuch (IsRefusedCapture why) source.was source.is × OnlyTells out err (bad_line sqrun why))
    ⊎ ((why : PcapngFault) × IsBadPcapng why × ReadsSuch (IsRefusedPcapng why) source.was source.is × OnlyTells out err (pcapng_line sqrun why))
RanRead a source out err back status.TooLarge =
    (TakesTooMany source.was source.is × OnlyTells out err (many_bytes_line sqrun))
    ⊎ (ReadsSuch (IsRefusedCapture fault.TooManyRecords) source.was source.is × OnlyTells out err (many_records_line sqrun))
    ⊎ (ReadsSuch (IsRefusedPcapng pcapng.TooManyRecords) source.was source.is × OnlyTells out err (many_records_line sqrun))
    ⊎ ((file : CaptureFile) × Reads source file × ((n : ℕ) × IsLongTrace file a n × OnlyTells out err (many_marks_line n)))
RanRead a source out err back status.ReadFault = OnlyTells out err (read_line sqrun)
RanRead a source out err back status.NoMemory = OnlyTells out err (memory_line sqrun)
RanRead a source out err back status.Usage = ⊥

-- a run for what the words ask; where they are refused, or the input is generated, nothing was read
abbrev pub RanBy : Option ℕ → Asked → End → End → End → Option ServedOf → Status → Type 0
RanBy (Some number) a source out err back s = IsUntouched source × RanGenerated number a out err back s
RanBy None a source out err back s = HasRead source s × RanRead a source out err back s

abbrev pub RanFor : Option Asked → End → End → End → Option ServedOf → Status → Type 0
RanFor None source out err back s = IsUntouched source × RanRefused out err s
RanFor (Some a) source out err back s = RanBy a.number a source out err back s

-- such a run, and what it hands back
pub record HasRan (words : Option Asked) (source out err : End) (back : Option ServedOf) (s : Status) : Type 0 where
  pub ran : RanFor words source out err back s
  pub handed : HandsBack back s

-- what a source has left is a capture within the size that can be served
pub record HoldsCapture (a : Asked) (left : Option (List ℕ)) : Type 0 where
  pub file : CaptureFile
  pub bytes : left ≡ Some file.bytes
  pub capture : IsInput file
  pub servable : IsServable file a

abbrev pub AcceptsBy : Option ℕ → Asked → Option (List ℕ) → Type 0
AcceptsBy (Some number) a left = Unit {0}
AcceptsBy None a left = HoldsCapture a left

-- the words are accepted, and so is what the source has left; where the input is generated it isn't read
abbrev pub Accepts : Option Asked → Option (List ℕ) → Type 0
Accepts None left = ⊥
Accepts (Some a) left = AcceptsBy a.number a left
