-- What the blocks of a file say, one after the other (draft-ietf-opsawg-pcapng, section 4).
use Rattle.std.specs.Prelude.{ℕ, ◌+◌, ◌-◌, ◌*◌, ◌^◌, min, Bool, true, ◌==◌, ◌&&◌, nat_le, List, [], is_some}
use Rattle.std.specs.Prelude.{◌∷◌, ◌++◌, length, drop, take, slice_get, Option, None, Some, Result, Ok, Err, if◌then◌else◌}
use Rattle.sq_base.specs.Links.{link_of}
use Rattle.capture_reader.specs.Limits.{most_records, longest_body}
use Rattle.capture_reader.specs.declared.capture.Record.{Record}
use Rattle.pcapng_reader.specs.declared.order.Order.{Order}
use Rattle.pcapng_reader.specs.declared.frame.Frame.{Frame}
use Rattle.pcapng_reader.specs.declared.interface.Interface.{Interface}
use Rattle.pcapng_reader.specs.declared.fault.PcapngFault.{PcapngFault}
use Rattle.pcapng_reader.specs.declared.fault.PcapngFault.TheVariants as fault
use Rattle.pcapng_reader.specs.Limits.{section_type, interface_type, simple_type, packet_type, least_interface, least_packet, least_simple}
use Rattle.pcapng_reader.specs.Numbers.{number, padded}
use Rattle.pcapng_reader.specs.Options.{resolution, time_of}

-- how far a file is read: the blocks and bytes so far, the section's byte order and interfaces, the link type of the file's first
-- interface, and the records
pub record State : Type 0 where
  pub blocks : ℕ
  pub at : ℕ
  pub order : Order
  pub interfaces : List Interface
  pub link : Option ℕ
  pub records : List Record

abbrev pub Answer : Type 0
Answer = Result State PcapngFault

-- a section header (section 4.1): major version 1; its interfaces are counted anew
abbrev pub section_says : State → Order → List ℕ → Answer
section_says s order block =
    if number order 2 (drop 12 block) == 1
    then Ok (record { blocks = s.blocks; at = s.at; order = order; interfaces = []; link = s.link; records = s.records })
    else Err (fault.Version s.blocks (number order 2 (drop 12 block)) (number order 2 (drop 14 block)))

-- the same link type as that of the file's first interface, if there was one
abbrev pub is_same : Option ℕ → ℕ → Bool
is_same None n = true
is_same (Some first) n = first == n

-- the interface of a block, with its snapshot length and its resolution
abbrev pub interface_in : Order → List ℕ → Interface
interface_in order block = record {
  snapshot = number order 4 (drop 12 block);
  resolution = resolution order (take (length block - least_interface) (drop 16 block));
}

-- an interface description (section 4.2): link type, snapshot length, options
abbrev pub interface_says : State → List ℕ → Answer
interface_says s block =
    let n = number s.order 2 (drop 8 block) in
    if is_some (link_of n)
    then (if is_same s.link n
    then Ok (record {
      blocks = s.blocks;
      at = s.at;
      order = s.order;
      interfaces = s.interfaces ++ interface_in s.order block ∷ [];
      link = Some n;
      records = s.records;
    })
    else Err (fault.MixedLink s.blocks n))
    else Err (fault.Link s.blocks n)

-- a record of a packet with so much room for its captured bytes: its length is within the limit and the room, and there aren't too many
abbrev pub record_says : State → Record → ℕ → Answer
record_says s r room =
    if nat_le r.len longest_body && nat_le (padded r.len) room
    then (if length s.records == most_records
    then Err fault.TooManyRecords
    else Ok (record { blocks = s.blocks; at = s.at; order = s.order; interfaces = s.interfaces; link = s.link; records = s.records ++ r ∷ [] }))
    else Err (fault.PacketLength s.blocks r.len)

abbrev pub packet_on : State → ℕ → Option Interface → List ℕ → Answer
packet_on s id None block = Err (fault.NoInterface s.blocks id)
packet_on s id (Some interface) block =
    record_says s (record {
      at = time_of interface.resolution (number s.order 4 (drop 12 block) * 2 ^ 32 + number s.order 4 (drop 16 block));
      from = s.at + 28;
      len = number s.order 4 (drop 20 block);
    }) (length block - least_packet)

-- an enhanced packet (section 4.3): interface, time high and low, captured length, original length, body
abbrev pub packet_says : State → List ℕ → Answer
packet_says s block = packet_on s (number s.order 4 (drop 8 block)) (slice_get s.interfaces (number s.order 4 (drop 8 block))) block

-- the captured length that a snapshot length leaves, where 0 is no limit
abbrev pub shortened : ℕ → ℕ → ℕ
shortened original snapshot = if snapshot == 0 then original else min original snapshot

-- the time of the last record so far
abbrev pub last_at : Option Record → ℕ
last_at None = 0
last_at (Some r) = r.at

abbrev pub simple_on : State → Option Interface → List ℕ → Answer
simple_on s None block = Err (fault.NoInterface s.blocks 0)
simple_on s (Some first) block =
    record_says s (record {
      at = last_at (slice_get s.records (length s.records - 1));
      from = s.at + 12;
      len = shortened (number s.order 4 (drop 8 block)) first.snapshot;
    }) (length block - least_simple)

-- a simple packet (section 4.4): original length and body, at the section's first interface
abbrev pub simple_says : State → List ℕ → Answer
simple_says s block = simple_on s (slice_get s.interfaces 0) block

-- what the block of a frame says; a block of another type is skipped unread
unfoldable pub content_says : State → Frame → List ℕ → Answer
content_says s frame block =
    if frame.kind == section_type then section_says s frame.order block
    else if frame.kind == interface_type then interface_says s block
    else if frame.kind == simple_type then simple_says s block
    else if frame.kind == packet_type then packet_says s block
    else Ok s

-- behind a block of this length
abbrev pub behind : ℕ → State → State
behind total s = record { blocks = s.blocks + 1; at = s.at + total; order = s.order; interfaces = s.interfaces; link = s.link; records = s.records }
