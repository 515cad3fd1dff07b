-- The streams of a capture: echo and discard over UDP (RFC 862, RFC 863) and the character generator over TCP, by first appearance,
-- at most 4,096, each with its items.
use Rattle.std.specs.Prelude.{ℕ, ◌+◌, ◌-◌, ◌==◌, not, max, Bool, false}
use Rattle.std.specs.Prelude.{List, [], ◌∷◌, ◌++◌, take, map, filter, length, Option, None, Some, suc, if◌then◌else◌}
use Rattle.std.specs.List.{filter_map, list_any}
use Rattle.sq_base.specs.Ports.{chargen_port, is_served_udp_port}
use Rattle.sq_base.specs.declared.kinds.Link.{Link}
use Rattle.sq_base.specs.declared.kinds.Tuple.{Tuple}
use Rattle.capture_reader.specs.CaptureFile.{last_time, Packet as Captured}
use Rattle.capture_reader.specs.Outcome.{CaptureFile}
use Rattle.segment_codec.specs.declared.packet.Packet.{Packet}
use Rattle.segment_codec.specs.declared.packet.Packet.TheVariants as packet
use Rattle.segment_codec.specs.Packet.{packet_in}
use Rattle.udp_codec.specs.declared.datagram.Udp.{Udp}
use Rattle.udp_codec.specs.UdpDatagram.{udp_in}
use Rattle.conn_classifier.specs.Connections.{tuple_eq, distinct}
use Rattle.conn_classifier.specs.Items.{items_of}
use Rattle.conn_classifier.specs.declared.kinds.Arrival.{Arrival}
use Rattle.conn_classifier.specs.declared.kinds.Item.{Item}
use Rattle.stream_plan.specs.Limits.{most_streams}
use Rattle.stream_plan.specs.declared.kinds.Found.{Found}
use Rattle.stream_plan.specs.declared.kinds.Found.TheVariants as found
use Rattle.stream_plan.specs.declared.kinds.Arrived.{Arrived}
use Rattle.stream_plan.specs.declared.kinds.Counts.{Counts}
use Rattle.stream_plan.specs.declared.kinds.ServedDatagram.{ServedDatagram}

-- a datagram to echo or discard is served, and so is a segment to the generator
abbrev pub served_udp : Udp → Option Found
served_udp u = if is_served_udp_port u.dst_port then Some (found.Datagram u) else None

abbrev pub served_tcp : Packet → Option Found
served_tcp (packet.Segment s) = if s.dst_port == chargen_port then Some (found.Segment s) else None
served_tcp packet.Other = None
served_tcp packet.Fragment = None
served_tcp packet.Cut = None
served_tcp (packet.Malformed why) = None
served_tcp packet.BadSum = None

-- what a record holds, where it is served
abbrev pub served_of : Option Udp → Packet → Option Found
served_of (Some u) p = served_udp u
served_of None p = served_tcp p

abbrev pub served_in : Link → List ℕ → Option Found
served_in link body = served_of (udp_in link body) (packet_in link body false)

-- what of a record is served, with the record's number and time
abbrev pub arrived : ℕ → ℕ → Option Found → List Arrived
arrived n at None = []
arrived n at (Some f) = record { rec = n; at = at; found = f } ∷ []

-- all that of these records, numbered from n
abbrev pub arrived_from : Link → ℕ → List Captured → List Arrived
arrived_from link n [] = []
arrived_from link n (r ∷ rs) = arrived n r.time (served_in link r.body) ++ arrived_from link (suc n) rs

abbrev pub arrivals_of : CaptureFile → List Arrived
arrivals_of file = arrived_from file.link 0 file.packets

-- the stream of what is served: its source is the client, its destination the server, whose port tells the protocol
abbrev pub tuple_of : Found → Tuple
tuple_of (found.Datagram u) = record { client = u.src; client_port = u.src_port; server = u.dst; server_port = u.dst_port }
tuple_of (found.Segment s) = record { client = s.src; client_port = s.src_port; server = s.dst; server_port = s.dst_port }

-- the different streams, each where it comes first
unfoldable pub tuples_in : List Arrived → List Tuple
tuples_in xs = take most_streams (distinct (map (λ x. tuple_of x.found) xs))

-- those of one stream, in record order
abbrev pub is_of : Tuple → Arrived → Bool
is_of t x = tuple_eq (tuple_of x.found) t

abbrev pub of_stream : Tuple → List Arrived → List Arrived
of_stream t xs = filter (is_of t) xs

-- the datagrams and the segments among them
abbrev pub as_datagram : ℕ → ℕ → Found → Option ServedDatagram
as_datagram rec at (found.Datagram u) = Some (record { at = at; rec = rec; udp = u })
as_datagram rec at (found.Segment s) = None

abbrev pub as_segment : ℕ → ℕ → Found → Option Arrival
as_segment rec at (found.Datagram u) = None
as_segment rec at (found.Segment s) = Some (record { rec = rec; at = at; seg = s })

abbrev pub datagrams_of : List Arrived → List ServedDatagram
datagrams_of xs = filter_map (λ x. as_datagram x.rec x.at x.found) xs

abbrev pub segments_of : List Arrived → List Arrival
segments_of xs = filter_map (λ x. as_segment x.rec x.at x.found) xs

-- a datagram's time never falls behind that of the one before it
abbrev pub rising : ℕ → List ServedDatagram → List ServedDatagram
rising last [] = []
rising last (d ∷ ds) = record d { at = max last d.at } ∷ rising (max last d.at) ds

-- a stream: its two ends, the datagrams to echo or discard, and the items of the segments to the generator, of which one list is empty
pub record StreamOf : Type 0 where
  pub tuple : Tuple
  pub datagrams : List ServedDatagram
  pub items : List Item

-- how many it has of both
abbrev pub item_count : StreamOf → ℕ
item_count s = length s.datagrams + length s.items

-- the stream of what arrived for it, where this is the greatest time of all records
abbrev pub stream_in : ℕ → Tuple → List Arrived → StreamOf
stream_in last t xs = record { tuple = t; datagrams = rising 0 (datagrams_of xs); items = items_of last (segments_of xs) }

-- whether it is of one of these streams
abbrev pub is_among : List Tuple → Arrived → Bool
is_among ts x = list_any (tuple_eq (tuple_of x.found)) ts

-- so many records are of the streams, are of later ones, or are of another kind
abbrev pub counts_of : ℕ → List Tuple → List Arrived → Counts
counts_of records ts xs = record {
  served = length (filter (is_among ts) xs);
  nofit = length (filter (λ x. not (is_among ts x)) xs);
  other = records - length xs;
}

pub record MorePlanOf : Type 0 where
  pub file : CaptureFile
  pub counts : Counts
  pub streams : List StreamOf

abbrev pub plan_in : CaptureFile → List Arrived → List Tuple → MorePlanOf
plan_in file xs ts = record {
  file = file;
  counts = counts_of (length file.packets) ts xs;
  streams = map (λ t. stream_in (last_time file.packets) t (of_stream t xs)) ts;
}

unfoldable pub more_plan_of : CaptureFile → MorePlanOf
more_plan_of file = plan_in file (arrivals_of file) (tuples_in (arrivals_of file))
