-- The connections of a capture: the distinct tuples of the segments to served ports, by first appearance, at most 4,096.
use Rattle.std.specs.Prelude.{◌==◌, ◌&&◌, not, Bool, List, [], ◌∷◌, take, map, filter, Option, None, Some, if◌then◌else◌}
use Rattle.std.specs.List.{filter_map}
use Rattle.std.specs.Option.{option_map}
use Rattle.sq_base.specs.declared.kinds.Tuple.{Tuple}
use Rattle.capture_reader.specs.Outcome.{CaptureFile}
use Rattle.segment_codec.specs.declared.packet.Packet.{Packet}
use Rattle.segment_codec.specs.declared.packet.Packet.TheVariants as packet
use Rattle.segment_codec.specs.declared.packet.Seg.{Seg}
use Rattle.segment_codec.specs.Packet.{packet_in}
use Rattle.segment_codec.specs.Refusal.{tuple_of}
use Rattle.conn_classifier.specs.Limits.{most_conns}
use Rattle.conn_classifier.specs.Rules.{is_served}
use Rattle.conn_classifier.specs.declared.rules.Ports.{Ports}

-- what each record of a capture holds
abbrev pub decoded : CaptureFile → Bool → List Packet
decoded file verify = map (λ r. packet_in file.link r.body verify) file.packets

abbrev pub tuple_eq : Tuple → Tuple → Bool
tuple_eq a b = (a.client.0 == b.client.0) && ((a.client_port == b.client_port) && ((a.server.0 == b.server.0) && (a.server_port == b.server_port)))

-- the segment that a record holds, where it goes to a served port
abbrev pub served_in : Ports → Packet → Option Seg
served_in ports (packet.Segment s) = if is_served ports s.dst_port then Some s else None
served_in ports packet.Other = None
served_in ports packet.Fragment = None
served_in ports packet.Cut = None
served_in ports (packet.Malformed why) = None
served_in ports packet.BadSum = None

abbrev pub served_tuple : Ports → Packet → Option Tuple
served_tuple ports p = option_map tuple_of (served_in ports p)

-- the different tuples, each where it comes first
abbrev pub distinct : List Tuple → List Tuple
distinct [] = []
distinct (t ∷ ts) = t ∷ filter (λ u. not (tuple_eq u t)) (distinct ts)

unfoldable pub conns : Ports → List Packet → List Tuple
conns ports ps = take most_conns (distinct (filter_map (served_tuple ports) ps))
