-- What a server makes of a datagram and of the time.
use Rattle.std.specs.Prelude.{ℕ, ◌+◌, ◌-◌, ◌/◌, ◌^◌, ◌==◌, min, nat_le, nat_lt, ◌&&◌, not, bit_and, Bool, true, false, Option, None, Some, unwrap_or, List}
use Rattle.std.specs.Prelude.{[], ◌∷◌, ◌++◌, bytes_eq, codes, length, if◌then◌else◌}
use Rattle.std.specs.List.{flat_map}
use Rattle.std.specs.Option.{option_map_or}
use Rattle.segment_codec.specs.Packet.{packet_in}
use Rattle.segment_codec.specs.Refusal.{refusal_of, tuple_of}
use Rattle.segment_codec.specs.SentIsRead.{text_in}
use Rattle.segment_codec.specs.declared.packet.Packet.{Packet}
use Rattle.segment_codec.specs.declared.packet.Packet.TheVariants as packet
use Rattle.segment_codec.specs.declared.packet.Seg.{Seg}
use Rattle.tcb_machine.specs.Limits.{default_mss}
use Rattle.sq_base.specs.declared.kinds.Link.TheVariants.{RawIp}
use Rattle.sq_base.specs.declared.kinds.Tuple.{Tuple}
use Rattle.udp_codec.specs.ReadAgain.{text_in as ordered_text}
use Rattle.udp_codec.specs.UdpBytes.{udp_bytes}
use Rattle.udp_codec.specs.declared.datagram.Udp.{Udp}
use Rattle.live_server.specs.Acts.{datagram_of, emptied, is_half_open, is_over, judged, new_conn, reached, receives, sent_by, ticked}
use Rattle.icmp_codec.specs.EchoReply.{pong_bytes}
use Rattle.icmp_codec.specs.EchoRequest.{PingOf, ping_in}
use Rattle.icmp_codec.specs.TooLong.{too_long_in}
use Rattle.icmp_codec.specs.Unreachable.{unreachable_in}
use Rattle.icmp_codec.specs.declared.unreachable.Cause.{Cause}
use Rattle.icmp_codec.specs.declared.unreachable.Unreachable.{Unreachable}
use Rattle.icmp_codec.specs.declared.too_long.TooLong.{TooLong}
use Rattle.live_server.specs.Addresses.{is_for_us, is_to_us}
use Rattle.live_server.specs.Counting.{counting_cause, counting_judged, more}
use Rattle.live_server.specs.CountsText.{counts_text, named_counts, state_counts}
use Rattle.live_server.specs.Initial.{number_for}
use Rattle.live_server.specs.Leaving.{and_turned, without_leaving, without_shed}
use Rattle.live_server.specs.Marking.{marked_bytes}
use Rattle.live_server.specs.PathMtu.{shortens, text_in_mtu}
use Rattle.live_server.specs.Orders.{order_in}
use Rattle.live_server.specs.Services.{is_served_at, service_at}
use Rattle.live_server.specs.Unreached.{reported}
use Rattle.live_server.specs.Urgent.{as_reset, reset_text, urgent_in, urges}
use Rattle.live_server.specs.Table.{Conns, all_reached, conn_at, held_by, place_of, replaced, without, without_over}
use Rattle.live_server.specs.declared.acting.Datagram.{Datagram}
use Rattle.live_server.specs.declared.conn.Conn.{Conn}
use Rattle.live_server.specs.declared.conn.Judged.{Judged}
use Rattle.live_server.specs.declared.conn.Met.{Met}
use Rattle.live_server.specs.declared.conn.Met.TheVariants.{Gone, Judged as judges}
use Rattle.live_server.specs.declared.counts.Counts.{Counts}
use Rattle.live_server.specs.declared.crowding.TurnedAway.{TurnedAway}
use Rattle.live_server.specs.declared.crowding.TurnedAway.TheVariants.{Nobody}
use Rattle.live_server.specs.declared.marking.Marking.{Marking}
use Rattle.live_server.specs.declared.measures.Measures.{Measures}
use Rattle.live_server.specs.declared.rules.Rules.{Rules}
use Rattle.live_server.specs.declared.setting.Setting.{Setting}
use Rattle.live_server.specs.declared.unreached.Reported.{Reported}
use Rattle.live_server.specs.declared.unreached.Reported.TheVariants.{HalfOpen, Open, Stray}

-- the connections; the ends and the number of those that were opened last, which may be half open, by age; how many bytes all held when
-- the time last came to them, with the text that came since; how many echo requests were answered since then, whether the
-- host was told the counts, and who was turned away; whether it drains; what it was started with; what it met
pub record ServerOf : Type 0 where
  pub conns : Conns
  pub waiting : List (Tuple × ℕ)
  pub held : ℕ
  pub pings : ℕ
  pub told : Bool
  pub turned : TurnedAway
  pub draining : Bool
  pub setting : Setting
  pub secret : List ℕ
  pub counts : Counts

-- the state of the rules over a table, whose connections a function tells
abbrev pub server_of : {T : Type 0} → (T → Conns) → Rules T → ServerOf
server_of conns r = record {
  conns = conns r.table;
  waiting = r.waiting.items;
  held = r.held;
  pings = r.pings;
  told = r.told;
  turned = r.turned;
  draining = r.draining;
  setting = r.setting;
  secret = r.secret.0;
  counts = r.counts;
}

-- what becomes of a server, and what it sends
pub record Outcome : Type 0 where
  pub server : ServerOf
  pub sent : List Datagram

abbrev pub sends_nothing : ServerOf → Outcome
sends_nothing sv = record { server = sv; sent = [] }

abbrev pub judging : Judged → ServerOf → ServerOf
judging j sv = record sv { counts = counting_judged j sv.counts }

-- the connection at a place becomes c, which leaves where it is over
unfoldable pub becomes : ℕ → Tuple → Conn → ServerOf → Outcome
becomes place t c sv = record { server = record sv { conns = replaced place c sv.conns }; sent = sent_by t c }

-- the time comes to the connection of two ends, where there is one
unfoldable pub time_to : ℕ → Tuple → ServerOf → Outcome
time_to now t sv = option_map_or (λ place. becomes place t (reached now (conn_at place sv.conns)) sv) (place_of t sv.conns) (sends_nothing sv)

-- what a segment makes of a connection
abbrev pub served : ℕ → Seg → List ℕ → ServerOf → Conn → Conn
served now s text sv c = receives now (number_for sv.secret now s) s text c

-- a segment of the connection at a place
unfoldable pub goes_on : ℕ → Seg → List ℕ → ℕ → ServerOf → Outcome
goes_on now s text place sv =
    let c = conn_at place sv.conns in
    becomes place (tuple_of s) (served now s text sv c) (judging (judged now s text c) sv)

-- so many places are free, of connections and of those that may be half open
unfoldable pub has_place : ServerOf → Bool
has_place sv = nat_lt (length sv.conns) sv.setting.places && nat_lt (length sv.waiting) sv.setting.places

-- it is half open, and the one that was opened with a number
abbrev pub is_waiting : ℕ → Conn → Bool
is_waiting number c = is_half_open c && (c.number == number)

-- the connection at a place gives way, where that is so
abbrev pub gives_way : ℕ → ServerOf → ServerOf
gives_way place sv = record sv { conns = without place sv.conns; counts = record sv.counts { gave_way = more 1 sv.counts.gave_way } }

unfoldable pub yields_at : ℕ → ℕ → ServerOf → ServerOf
yields_at number place sv = if is_waiting number (conn_at place sv.conns) then gives_way place sv else sv

-- and that of two ends, where it has a place
unfoldable pub yields : Tuple × ℕ → ServerOf → ServerOf
yields w sv = option_map_or (λ place. yields_at w.1 place sv) (place_of w.0 sv.conns) sv

-- in a full table the oldest half-open connection gives way; and none stays half open behind as many later ones as there are places
abbrev pub yielding : List (Tuple × ℕ) → ServerOf → ServerOf
yielding [] sv = sv
yielding (w ∷ ws) sv = if has_place sv then sv else yielding ws (yields w (record sv { waiting = ws }))

abbrev pub makes_place : ServerOf → ServerOf
makes_place sv = yielding sv.waiting sv

-- the how-manyth it is of those that were opened, modulo 2^64
abbrev pub numbered : ServerOf → Conn → Conn
numbered sv c = record c { number = sv.counts.opened }

-- a connection takes a place that is free
abbrev pub takes_free : Tuple → Conn → ServerOf → Outcome
takes_free t c sv = record {
  server = record sv {
    conns = sv.conns ++ (t, emptied (numbered sv c)) ∷ [];
    waiting = sv.waiting ++ (t, sv.counts.opened) ∷ [];
    counts = record sv.counts { opened = more 1 sv.counts.opened };
  };
  sent = sent_by t c;
}

-- or is answered by nothing
abbrev pub turns_away : Tuple → ServerOf → Outcome
turns_away t sv =
    sends_nothing (record sv { turned = and_turned t.client sv.turned; counts = record sv.counts { turned_away = more 1 sv.counts.turned_away } })

unfoldable pub takes_place : Tuple → Conn → ServerOf → Outcome
takes_place t c sv = if has_place sv then takes_free t c sv else turns_away t sv

-- what it sent goes out, and nothing else happens
abbrev pub sends_of : Tuple → Conn → ServerOf → Outcome
sends_of t c sv = record { server = sv; sent = sent_by t c }

-- a connection takes a place, unless it is over at once
unfoldable pub admits : ℕ → Seg → List ℕ → ServerOf → Outcome
admits now s text sv =
    let c = served now s text sv (new_conn (service_at sv.setting now s.dst_port) sv.setting.segment sv.setting.marking now) in
    if is_over c then sends_of (tuple_of s) c sv else takes_place (tuple_of s) c (makes_place sv)

-- a segment elsewhere is answered by a reset (RFC 9293, 3.10.7.1)
abbrev pub refused : Marking → ℕ → Seg → List Datagram
refused m now s = option_map_or (λ r. datagram_of m (tuple_of s) r ∷ []) (refusal_of now s) []

abbrev pub refuses : ℕ → Seg → ServerOf → Outcome
refuses now s sv = record { server = record sv { counts = record sv.counts { refused = more 1 sv.counts.refused } }; sent = refused sv.setting.marking now s }

-- a segment of a connection that has no place; where the server drains none opens any more
unfoldable pub opens : ℕ → Seg → List ℕ → ServerOf → Outcome
opens now s text sv = if sv.draining then refuses now s sv else admits now s text sv

unfoldable pub comes : ℕ → Seg → List ℕ → ServerOf → Outcome
comes now s text sv = option_map_or (λ place. goes_on now s text place sv) (place_of (tuple_of s) sv.conns) (opens now s text sv)

-- one after the other
abbrev pub then_sends : Outcome → (ServerOf → Outcome) → Outcome
then_sends first next = record { server = (next first.server).server; sent = first.sent ++ (next first.server).sent }

-- whether all may hold so much more
unfoldable pub fits : List ℕ → ServerOf → Bool
fits text sv = nat_le (length text) (sv.setting.bytes - sv.held)

-- where they may not, a segment counts without its text and its FIN
abbrev pub without_text : Seg → Seg
without_text s = record s { flags = bit_and s.flags 62 }

abbrev pub heeded : Seg → List ℕ → ServerOf → Seg
heeded s text sv = if fits text sv then s else without_text s

abbrev pub heeded_text : List ℕ → ServerOf → List ℕ
heeded_text text sv = if fits text sv then text else []

abbrev pub holding : List ℕ → ServerOf → ServerOf
holding text sv = record sv { held = min (2 ^ 64 - 1) (sv.held + length text) }

abbrev pub overfull : ServerOf → ServerOf
overfull sv = record sv { counts = record sv.counts { over_full = more 1 sv.counts.over_full } }

abbrev pub noting : List ℕ → ServerOf → ServerOf
noting text sv = if fits text sv then holding text sv else overfull sv

unfoldable pub heeds : ℕ → Seg → List ℕ → ServerOf → Outcome
heeds now s text sv = comes now (heeded s text sv) (heeded_text text sv) (noting text sv)

-- a segment to a service: the time comes to its connection first, so that the deadlines before it fire
unfoldable pub on_segment : ℕ → Seg → List ℕ → ServerOf → Outcome
on_segment now s text sv = then_sends (time_to now (tuple_of s) sv) (heeds now s text)

-- the same behind what was noted: the time, and then the segment
unfoldable pub arrives : ℕ → Seg → List ℕ → ServerOf → Outcome
arrives now s text sv = then_sends (time_to now (tuple_of s) sv) (comes now s text)

abbrev pub passes_over : ServerOf → Outcome
passes_over sv = sends_nothing (record sv { counts = record sv.counts { passed_over = more 1 sv.counts.passed_over } })

-- the text that is sent to a peer is no longer than the path takes (RFC 9293, 3.7.1)
abbrev pub limited : ℕ → Seg → Seg
limited most s = record s { options = record s.options { mss = Some (min most (unwrap_or s.options.mss default_mss)) } }

-- where urgent data ends counts each time that it is news (RFC 9293, 3.8.5)
abbrev pub counting_urgent : Met → ServerOf → ServerOf
counting_urgent (judges j) sv = record sv { counts = record sv.counts { urgent = more 1 sv.counts.urgent } }
counting_urgent Gone sv = sv

-- it comes to the connection at a place
unfoldable pub urges_at : ℕ → ℕ → Seg → ℕ → ServerOf → Outcome
urges_at now pointer s place sv =
    let m = urges now pointer s (tuple_of s) (conn_at place sv.conns) in
    becomes place (tuple_of s) m.conn (counting_urgent m.met sv)

-- to the segment's own one, where there is one
unfoldable pub urges_own : ℕ → Option ℕ → Seg → ServerOf → Outcome
urges_own now None s sv = sends_nothing sv
urges_own now (Some pointer) s sv = option_map_or (λ place. urges_at now pointer s place sv) (place_of (tuple_of s) sv.conns) (sends_nothing sv)

-- a segment to a service, and before it where its urgent data ends, where it says so
unfoldable pub on_urgent : ℕ → Option ℕ → Seg → List ℕ → ServerOf → Outcome
on_urgent now pointer s text sv = then_sends (urges_own now pointer s sv) (on_segment now s text)

-- a segment: for us, and to a service, or elsewhere
unfoldable pub addressed : ℕ → Option ℕ → Seg → List ℕ → ServerOf → Outcome
addressed now pointer s text sv =
    if not (is_for_us sv.setting s) then sends_nothing (record sv { counts = record sv.counts { astray = more 1 sv.counts.astray } })
    else if is_served_at sv.setting.ports s.dst_port then on_urgent now pointer (limited sv.setting.segment s) text sv
    else refuses now s sv

-- an echo request is answered (RFC 1122, 3.2.2.6)
abbrev pub echoes : ℕ → PingOf → ServerOf → Outcome
echoes now p sv = record {
  server = record sv { pings = sv.pings + 1; counts = record sv.counts { pinged = more 1 sv.counts.pinged } };
  sent = record { at = now; bytes = marked_bytes sv.setting.marking (pong_bytes p) } ∷ [];
}

-- where it is for us, and not many were since the time last came
unfoldable pub is_echoed : PingOf → ServerOf → Bool
is_echoed p sv = is_to_us sv.setting p.src p.dst && nat_lt sv.pings sv.setting.pings

-- a router's message is heeded, or passed over
abbrev pub counting_path : Met → ServerOf → ServerOf
counting_path (judges j) sv = record sv { counts = record sv.counts { shortened = more 1 sv.counts.shortened } }
counting_path Gone sv = (passes_over sv).server

-- it comes to the connection at a place
unfoldable pub shortens_at : TooLong → ℕ → ServerOf → Outcome
shortens_at x place sv =
    let m = shortens x.seq (text_in_mtu x.mtu) x.ends (conn_at place sv.conns) in
    becomes place x.ends m.conn (counting_path m.met sv)

-- where it is for us, and the segment was of a connection that stands here
unfoldable pub on_too_long : TooLong → ServerOf → Outcome
on_too_long x sv =
    if is_to_us sv.setting x.src x.dst then option_map_or (λ place. shortens_at x place sv) (place_of x.ends sv.conns) (passes_over sv)
    else passes_over sv

-- A router says that a segment didn't arrive. Where it is of a connection's segment under way, it counts by its cause (RFC 9293, 3.9.2.2)
abbrev pub caused : Cause → ServerOf → ServerOf
caused cause sv = record sv { counts = counting_cause cause sv.counts }

-- and a half-open connection leaves
abbrev pub leaves_unreached : ℕ → ServerOf → ServerOf
leaves_unreached place sv = record sv { conns = without place sv.conns; counts = record sv.counts { unreached = more 1 sv.counts.unreached } }

abbrev pub unreached : Reported → Cause → ℕ → ServerOf → ServerOf
unreached Stray cause place sv = (passes_over sv).server
unreached Open cause place sv = caused cause sv
unreached HalfOpen cause place sv = leaves_unreached place (caused cause sv)

unfoldable pub unreached_at : Unreachable → ℕ → ServerOf → ServerOf
unreached_at x place sv = unreached (reported x.seq (conn_at place sv.conns)) x.cause place sv

-- where it is for us, and the segment was of a connection that stands here
unfoldable pub on_unreachable : Unreachable → ServerOf → ServerOf
on_unreachable x sv =
    if is_to_us sv.setting x.src x.dst then option_map_or (λ place. unreached_at x place sv) (place_of x.ends sv.conns) (passes_over sv).server
    else (passes_over sv).server

-- another protocol's datagram
unfoldable pub on_other : ℕ → Option PingOf → ServerOf → Outcome
on_other now None sv = passes_over sv
on_other now (Some p) sv = if is_echoed p sv then echoes now p sv else passes_over sv

-- what it tells of itself, and of what it met
abbrev pub told_counts : ServerOf → List (List ℕ × ℕ)
told_counts sv = state_counts (length sv.conns) (length sv.waiting) sv.held sv.draining ++ named_counts sv.counts

-- an answer goes where the datagram came from
abbrev pub back_to : Udp → Tuple
back_to u = record { client = u.src; client_port = u.src_port; server = u.dst; server_port = u.dst_port }

abbrev pub tells_counts : ℕ → Udp → ServerOf → Outcome
tells_counts now u sv = record {
  server = record sv { told = true };
  sent = record { at = now; bytes = marked_bytes sv.setting.marking (udp_bytes (back_to u) (counts_text (told_counts sv))) } ∷ [];
}

-- an order of the host: it drains from now on, whatever comes later; or the host is told the counts, once from one tick to the next. Other texts say
-- nothing
unfoldable pub obeys : ℕ → Udp → List ℕ → ServerOf → Outcome
obeys now u text sv =
    if bytes_eq text (codes "drain") then sends_nothing (record sv { draining = true })
    else if bytes_eq text (codes "counts") && not sv.told then tells_counts now u sv
    else passes_over sv

-- another protocol's datagram: an order, or not
unfoldable pub on_protocol : ℕ → List ℕ → ServerOf → Outcome
on_protocol now body sv = option_map_or (λ u. obeys now u (ordered_text u body) sv) (order_in sv.setting body) (on_other now (ping_in body) sv)

-- what says of no segment that it was too long: a router's message that one didn't arrive, or none of a router
unfoldable pub on_report : ℕ → List ℕ → ServerOf → Outcome
on_report now body sv = option_map_or (λ x. sends_nothing (on_unreachable x sv)) (unreachable_in body) (on_protocol now body sv)

unfoldable pub on_packet : ℕ → List ℕ → Packet → ServerOf → Outcome
on_packet now body (packet.Segment s) sv = addressed now (urgent_in s body) (as_reset s) (reset_text s (text_in s body)) sv
on_packet now body packet.Other sv = option_map_or (λ x. on_too_long x sv) (too_long_in body) (on_report now body sv)
on_packet now body packet.Fragment sv = passes_over sv
on_packet now body packet.Cut sv = passes_over sv
on_packet now body (packet.Malformed why) sv = passes_over sv
on_packet now body packet.BadSum sv = passes_over sv

-- a datagram comes, and its sums are verified
unfoldable pub on_datagram : ℕ → List ℕ → ServerOf → Outcome
on_datagram now body sv = on_packet now body (packet_in RawIp body true) sv

-- three quarters of the text that all may hold are held
unfoldable pub is_tight : ServerOf → Bool
is_tight sv = nat_le (sv.setting.bytes - sv.setting.bytes / 4) sv.held

-- what is asked of each connection at a tick
abbrev pub measures_of : ServerOf → Measures
measures_of sv = record { tight = is_tight sv; draining = sv.draining }

-- what a tick makes of a connection
abbrev pub timed : ℕ → ServerOf → Conn → Conn
timed now sv c = ticked (measures_of sv) now c

-- the time comes to every connection, and who is to leave does
unfoldable pub on_time : ℕ → ServerOf → Outcome
on_time now sv =
    let here = without_over (all_reached (measures_of sv) now sv.conns) in
    let kept = without_shed sv.setting sv.turned (without_leaving sv.setting now here) in
    record {
      server = record sv { conns = kept; held = held_by kept; pings = 0; told = false; turned = Nobody; counts = record sv.counts { left = more (length here - length kept) sv.counts.left } };
      sent = flat_map (λ c. sent_by c.0 (timed now sv c.1)) sv.conns;
    }
