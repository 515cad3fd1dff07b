-- The capture file (libpcap file format 2.4): a header, the spellings of the packets joined, and what an interrupted capture left of the next.
use Rattle.std.specs.Prelude.{◌≡◌, ℕ, ◌+◌, ◌*◌, ◌/◌, ◌<◌, ◌≤◌, max, Bool, true, false, List}
use Rattle.std.specs.Prelude.{[], ◌∷◌, ◌++◌, length, drop, map, fold, if◌then◌else◌, Result, Ok, Err}
use Rattle.std.specs.List.{concat, AllByRecursion}
use Rattle.sq_base.specs.declared.kinds.Link.{Link}
use Rattle.capture_reader.specs.declared.form.Form.{Form}
use Rattle.capture_reader.specs.Limits.{most_records, longest_body, header_size, record_header_size}
use Rattle.capture_reader.specs.Form.{number}
use Rattle.capture_reader.specs.Header.{header_answer}
use Rattle.capture_reader.specs.declared.fault.CaptureFault.{CaptureFault}
use Rattle.capture_reader.specs.declared.fault.CaptureFault.TheVariants as fault

-- a packet: its time in microseconds, the bytes that were captured, and where these begin in the file
pub record Packet : Type 0 where
  pub time : ℕ
  pub from : ℕ
  pub body : List ℕ

-- what a capture file says: its link, its packets, and whether the last one was cut
pub record Contents : Type 0 where
  pub link : Link
  pub packets : List Packet
  pub cut : Bool

-- the captured length that a packet's header names
abbrev pub named_length : Form → List ℕ → ℕ
named_length form bytes = number form 4 (drop 8 bytes)

-- such a header, which names a length within the limit, and a body of that length
pub record IsSpelling (form : Form) (bytes : List ℕ) : Type 0 where
  pub header : record_header_size ≤ length bytes
  pub most : named_length form bytes ≤ longest_body
  pub whole : length bytes ≡ record_header_size + named_length form bytes

abbrev pub micros : Form → ℕ → ℕ
micros form fraction = if form.nanoseconds then fraction / 1000 else fraction

-- the time that a packet's header names, in microseconds: whole seconds, and a fraction
abbrev pub named_time : Form → List ℕ → ℕ
named_time form bytes = number form 4 bytes * 1000000 + micros form (number form 4 (drop 4 bytes))

-- the packet of a spelling that begins at a place: its time, the captured length and the original length, then its body
abbrev pub packet_of : Form → ℕ → List ℕ → Packet
packet_of form at bytes = record {
  time = named_time form bytes;
  from = at + record_header_size;
  body = drop record_header_size bytes;
}

-- the packets of spellings that stand one behind the other, the first of them at a place
abbrev pub packets_of : Form → ℕ → List (List ℕ) → List Packet
packets_of form at [] = []
packets_of form at (piece ∷ pieces) = packet_of form at piece ∷ packets_of form (at + length piece) pieces

-- the bytes are a header that isn't refused, spellings, and a rest
pub record IsSplit (bytes : List ℕ) (form : Form) (link : Link) (pieces : List (List ℕ)) (rest : List ℕ) : Type 0 where
  pub header : List ℕ
  pub size : length header ≡ header_size
  pub whole : bytes ≡ header ++ (concat pieces ++ rest)
  pub says : header_answer bytes ≡ Ok (form, link)
  pub spelled : AllByRecursion (IsSpelling form) pieces

-- less than a whole spelling: no whole header, or one that names a body that is short enough and isn't whole
abbrev pub IsPartial : Form → List ℕ → Type 0
IsPartial form rest =
    (0 < length rest)
    × (record_header_size ≤ length rest → (named_length form rest ≤ longest_body) × (length rest < record_header_size + named_length form rest))

-- how a capture of so many packets ends: nothing is left, or a cut tail
abbrev pub Ends : Bool → Form → ℕ → List ℕ → Type 0
Ends false form count rest = (rest ≡ []) × (count ≤ most_records)
Ends true form count rest = IsPartial form rest × (count < most_records)

-- the bytes are a capture of these packets
pub record Captured (bytes : List ℕ) (contents : Contents) : Type 0 where
  pub form : Form
  pub pieces : List (List ℕ)
  pub rest : List ℕ
  pub split : IsSplit bytes form contents.link pieces rest
  pub ends : Ends contents.cut form (length pieces) rest
  pub named : contents.packets ≡ packets_of form header_size pieces

-- so many spellings, and then a rest
pub record HasPackets (bytes : List ℕ) (count : ℕ) (Rest : Form → List ℕ → Type 0) : Type 0 where
  pub form : Form
  pub link : Link
  pub pieces : List (List ℕ)
  pub rest : List ℕ
  pub split : IsSplit bytes form link pieces rest
  pub counted : length pieces ≡ count
  pub goes_on : Rest form rest

-- a whole header that names too great a length
abbrev pub IsTooLong : ℕ → Form → List ℕ → Type 0
IsTooLong len form rest = (record_header_size ≤ length rest) × (len ≡ named_length form rest) × (longest_body < len)

-- the bytes are refused for this cause; a fault, want of memory and the file's size are no causes of the bytes' own
abbrev pub Refused : List ℕ → CaptureFault → Type 0
Refused bytes (fault.ShortHeader n) = header_answer bytes ≡ Err (fault.ShortHeader n)
Refused bytes (fault.Magic magic) = header_answer bytes ≡ Err (fault.Magic magic)
Refused bytes (fault.Version major minor) = header_answer bytes ≡ Err (fault.Version major minor)
Refused bytes (fault.Link n) = header_answer bytes ≡ Err (fault.Link n)
Refused bytes (fault.RecordLength index len) = (index < most_records) × HasPackets bytes index (IsTooLong len)
Refused bytes fault.TooManyRecords = HasPackets bytes most_records (λ form rest. 0 < length rest)
Refused bytes fault.Read = ⊥
Refused bytes fault.NoMemory = ⊥
Refused bytes (fault.TooLarge n) = ⊥

-- the bytes are this capture, or are refused for this cause
abbrev pub Meets : List ℕ → Result Contents CaptureFault → Type 0
Meets bytes (Ok contents) = Captured bytes contents
Meets bytes (Err f) = Refused bytes f

-- the greatest time of all packets, and 0 where there is none
abbrev pub last_time : List Packet → ℕ
last_time packets = fold max 0 (map (λ p. p.time) packets)
