-- How a plan keeps its items: the packets stay as they were decoded, and each item has the number of its record.
use Rattle.std.specs.Prelude.{ℕ, ◌≡◌, ◌+◌, nat_le, List, [], ◌∷◌, Option, None, Some, slice_get, if◌then◌else◌}
use Rattle.std.specs.Option.{option_and_then, option_map, option_map_or}
use Rattle.capture_reader.specs.CaptureFile.{Packet as Captured}
use Rattle.segment_codec.specs.declared.packet.Packet.{Packet}
use Rattle.segment_codec.specs.declared.packet.Packet.TheVariants as packet
use Rattle.segment_codec.specs.declared.packet.Seg.{Seg}
use Rattle.segment_codec.specs.PlainSegments.{plain_from}
use Rattle.conn_classifier.specs.Limits.{least_gap}
use Rattle.conn_classifier.specs.declared.kinds.Arrival.{Arrival}
use Rattle.conn_classifier.specs.declared.kinds.Item.{Item}
use Rattle.conn_classifier.specs.declared.kinds.Item.TheVariants.{Time, Segment}
use Rattle.conn_classifier.specs.declared.kinds.Slot.{Slot}
use Rattle.conn_classifier.specs.declared.kinds.Slot.TheVariants as slot

-- the segment of a packet, where it is one
abbrev pub segment_of : Packet → Option Seg
segment_of (packet.Segment s) = Some s
segment_of packet.Other = None
segment_of packet.Fragment = None
segment_of packet.Cut = None
segment_of (packet.Malformed why) = None
segment_of packet.BadSum = None

-- the segment of record number n
abbrev pub segment_at : List Packet → ℕ → Option Seg
segment_at ps n = option_and_then segment_of (slice_get ps n)

-- stands for the segment of a record that has none, which no slot of a plan names
abbrev pub no_segment : Seg
no_segment = plain_from (record { client = record { 0 = 0 }; client_port = 0; server = record { 0 = 0 }; server_port = 0 }) 0 0 0 0 0 0

-- the item that is kept so beside these packets: a time item exactly where the slot is one
abbrev pub item_of : List Packet → Slot → Item
item_of ps (slot.Time at) = Time at
item_of ps (slot.Segment at rec iss) = Segment at rec iss (option_map_or (λ s. s) (segment_at ps rec) no_segment)

-- the time item of a gap, as it is kept
abbrev pub slot_gap : ℕ → ℕ → List Slot
slot_gap last at = if nat_le (last + least_gap) at then slot.Time at ∷ [] else []

-- an arrival is known by its record's number: its time and its segment are that record's
pub record IsKept (rs : List Captured) (ps : List Packet) (a : Arrival) : Type 0 where
  pub time : option_map (λ r. r.time) (slice_get rs a.rec) ≡ Some a.at
  pub segment : segment_at ps a.rec ≡ Some a.seg
