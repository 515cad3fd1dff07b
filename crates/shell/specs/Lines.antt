-- The lines that a program of this name writes where it gives no output.
use Rattle.std.specs.Prelude.{ℕ, List, [], ◌∷◌, ◌++◌, codes}
use Rattle.std.specs.Fmt.{decimal}
use Rattle.hex.specs.Hex.{encode_lower}
use Rattle.capture_reader.specs.declared.fault.CaptureFault.{CaptureFault}
use Rattle.capture_reader.specs.declared.fault.CaptureFault.TheVariants as fault
use Rattle.pcapng_reader.specs.declared.fault.PcapngFault.{PcapngFault}
use Rattle.pcapng_reader.specs.declared.fault.PcapngFault.TheVariants as pcapng

-- a line
abbrev pub line : List ℕ → List ℕ
line text = text ++ 10 ∷ []

abbrev pub memory_line : List ℕ → List ℕ
memory_line program = program ++ line (codes ": out of memory")

abbrev pub read_line : List ℕ → List ℕ
read_line program = program ++ line (codes ": read fault")

abbrev pub write_line : List ℕ → List ℕ
write_line program = program ++ line (codes ": write fault")

abbrev pub many_bytes_line : List ℕ → List ℕ
many_bytes_line program = program ++ line (codes ": too large: more than 67108864 bytes")

abbrev pub many_records_line : List ℕ → List ℕ
many_records_line program = program ++ line (codes ": too large: more than 1048576 records")

-- the line of a bad capture that shows this
unfoldable pub shown_line : List ℕ → List ℕ → List ℕ
shown_line program text = program ++ (codes ": bad capture: " ++ line text)

-- what a bad capture shows; the other faults have lines of their own
unfoldable pub capture_text : CaptureFault → List ℕ
capture_text (fault.ShortHeader n) = codes "short header of " ++ (decimal n ++ codes " bytes")
capture_text (fault.Magic magic) = codes "magic " ++ encode_lower magic
capture_text (fault.Version major minor) = codes "version " ++ (decimal major ++ (codes "." ++ decimal minor))
capture_text (fault.Link n) = codes "link type " ++ decimal n
capture_text (fault.RecordLength index len) = codes "record " ++ (decimal index ++ (codes " has length " ++ decimal len))
capture_text fault.TooManyRecords = []
capture_text (fault.TooLarge n) = []
capture_text fault.Read = []
capture_text fault.NoMemory = []

-- what a bad pcapng file shows; the other faults have lines of their own
unfoldable pub pcapng_text : PcapngFault → List ℕ
pcapng_text (pcapng.ShortSection n) = codes "pcapng short section of " ++ (decimal n ++ codes " bytes")
pcapng_text (pcapng.Magic index found) = codes "pcapng magic " ++ (encode_lower found ++ (codes " in block " ++ decimal index))
pcapng_text (pcapng.BlockLength index len) = codes "pcapng block " ++ (decimal index ++ (codes " has length " ++ decimal len))
pcapng_text (pcapng.EndLength index len) = codes "pcapng block " ++ (decimal index ++ (codes " ends with length " ++ decimal len))
pcapng_text (pcapng.Version index major minor) =
    codes "pcapng version " ++ (decimal major ++ (codes "." ++ (decimal minor ++ (codes " in block " ++ decimal index))))
pcapng_text (pcapng.Link index link) = codes "pcapng link type " ++ (decimal link ++ (codes " in block " ++ decimal index))
pcapng_text (pcapng.MixedLink index link) = codes "pcapng second link type " ++ (decimal link ++ (codes " in block " ++ decimal index))
pcapng_text (pcapng.NoInterface index id) = codes "pcapng interface " ++ (decimal id ++ (codes " in block " ++ decimal index))
pcapng_text (pcapng.PacketLength index len) = codes "pcapng packet of " ++ (decimal len ++ (codes " bytes in block " ++ decimal index))
pcapng_text pcapng.TooManyRecords = []
pcapng_text pcapng.NoMemory = []

-- the line of a bad capture, and of a bad pcapng file
abbrev pub bad_line : List ℕ → CaptureFault → List ℕ
bad_line program why = shown_line program (capture_text why)

abbrev pub pcapng_line : List ℕ → PcapngFault → List ℕ
pcapng_line program why = shown_line program (pcapng_text why)
