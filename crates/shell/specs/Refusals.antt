-- The line and the status of words, and of an input, that are refused.
use Rattle.std.specs.Prelude.{◌≡◌, ℕ, List, ◌⊎◌}
use Rattle.sq_base.specs.Ends.{End}
use Rattle.sq_base.specs.declared.kinds.Status.{Status}
use Rattle.sq_base.specs.declared.kinds.Status.TheVariants as status
use Rattle.capture_reader.specs.declared.fault.CaptureFault.{CaptureFault}
use Rattle.capture_reader.specs.declared.fault.CaptureFault.TheVariants as fault
use Rattle.pcapng_reader.specs.declared.fault.PcapngFault.{PcapngFault}
use Rattle.pcapng_reader.specs.declared.fault.PcapngFault.TheVariants as pcapng
use Rattle.shell.specs.Lines.{bad_line, many_bytes_line, many_records_line, memory_line, pcapng_line, read_line}
use Rattle.shell.specs.Table.{TableOf, Text}
use Rattle.shell.specs.Telling.{TellsLine}
use Rattle.shell.specs.Usage.{usage_line}
use Rattle.shell.specs.declared.words.WordFault.{WordFault}
use Rattle.shell.specs.declared.words.WordFault.TheVariants as words

abbrev pub WordsTold : TableOf → WordFault → End → Status → Type 0
WordsTold t words.Usage err s = (s ≡ status.Usage) × TellsLine err (usage_line t)
WordsTold t words.NoMemory err s = (s ≡ status.NoMemory) × TellsLine err (memory_line t.program)

-- by the program of this name
module _ (program : Text) where
  -- the line and the status of a refusal; where memory for the line is missing, that is the refusal
  abbrev pub LineOrMemory : Status → List ℕ → End → Status → Type 0
  LineOrMemory wanted text err s = ((s ≡ wanted) × TellsLine err text) ⊎ ((s ≡ status.NoMemory) × TellsLine err (memory_line program))

  -- a capture file
  abbrev pub CaptureTold : CaptureFault → End → Status → Type 0
  CaptureTold fault.NoMemory err s = (s ≡ status.NoMemory) × TellsLine err (memory_line program)
  CaptureTold fault.Read err s = (s ≡ status.ReadFault) × TellsLine err (read_line program)
  CaptureTold (fault.TooLarge n) err s = (s ≡ status.TooLarge) × TellsLine err (many_bytes_line program)
  CaptureTold fault.TooManyRecords err s = (s ≡ status.TooLarge) × TellsLine err (many_records_line program)
  CaptureTold (fault.ShortHeader n) err s = LineOrMemory status.BadCapture (bad_line program (fault.ShortHeader n)) err s
  CaptureTold (fault.Magic magic) err s = LineOrMemory status.BadCapture (bad_line program (fault.Magic magic)) err s
  CaptureTold (fault.Version major minor) err s = LineOrMemory status.BadCapture (bad_line program (fault.Version major minor)) err s
  CaptureTold (fault.Link n) err s = LineOrMemory status.BadCapture (bad_line program (fault.Link n)) err s
  CaptureTold (fault.RecordLength index len) err s = LineOrMemory status.BadCapture (bad_line program (fault.RecordLength index len)) err s

  -- a pcapng file
  abbrev pub PcapngTold : PcapngFault → End → Status → Type 0
  PcapngTold pcapng.NoMemory err s = (s ≡ status.NoMemory) × TellsLine err (memory_line program)
  PcapngTold pcapng.TooManyRecords err s = (s ≡ status.TooLarge) × TellsLine err (many_records_line program)
  PcapngTold (pcapng.ShortSection n) err s = LineOrMemory status.BadCapture (pcapng_line program (pcapng.ShortSection n)) err s
  PcapngTold (pcapng.Magic i found) err s = LineOrMemory status.BadCapture (pcapng_line program (pcapng.Magic i found)) err s
  PcapngTold (pcapng.BlockLength i n) err s = LineOrMemory status.BadCapture (pcapng_line program (pcapng.BlockLength i n)) err s
  PcapngTold (pcapng.EndLength i n) err s = LineOrMemory status.BadCapture (pcapng_line program (pcapng.EndLength i n)) err s
  PcapngTold (pcapng.Version i major minor) err s = LineOrMemory status.BadCapture (pcapng_line program (pcapng.Version i major minor)) err s
  PcapngTold (pcapng.Link i n) err s = LineOrMemory status.BadCapture (pcapng_line program (pcapng.Link i n)) err s
  PcapngTold (pcapng.MixedLink i n) err s = LineOrMemory status.BadCapture (pcapng_line program (pcapng.MixedLink i n)) err s
  PcapngTold (pcapng.NoInterface i n) err s = LineOrMemory status.BadCapture (pcapng_line program (pcapng.NoInterface i n)) err s
  PcapngTold (pcapng.PacketLength i n) err s = LineOrMemory status.BadCapture (pcapng_line program (pcapng.PacketLength i n)) err s
