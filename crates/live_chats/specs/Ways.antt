-- Ways: what the table does with each frame, as steps. Its rules are those of `Serving`.
use Rattle.std.specs.Prelude.{◌≡◌, ℕ, ◌==◌, not, true, List, [], ◌∷◌, ◌++◌, length, map, filter, Option, None, Some, if◌then◌else◌}
use Rattle.std.specs.Option.{option_map_or}
use Rattle.segment_codec.specs.Packet.{packet_in}
use Rattle.segment_codec.specs.Refusal.{tuple_of}
use Rattle.segment_codec.specs.SentIsRead.{text_in}
use Rattle.segment_codec.specs.declared.packet.Packet.{Packet}
use Rattle.segment_codec.specs.declared.packet.Packet.TheVariants as packet
use Rattle.segment_codec.specs.declared.packet.Seg.{Seg}
use Rattle.sq_base.specs.declared.kinds.Link.TheVariants.{RawIp}
use Rattle.sq_base.specs.declared.kinds.Tuple.{Tuple}
use Rattle.icmp_codec.specs.EchoRequest.{PingOf, ping_in}
use Rattle.icmp_codec.specs.TooLong.{too_long_in}
use Rattle.icmp_codec.specs.declared.too_long.TooLong.{TooLong}
use Rattle.icmp_codec.specs.Unreachable.{unreachable_in}
use Rattle.icmp_codec.specs.declared.unreachable.Unreachable.{Unreachable}
use Rattle.live_server.specs.Unreached.{reported}
use Rattle.live_server.specs.Urgent.{as_reset, reset_text, urgent_in}
use Rattle.live_server.specs.declared.unreached.Reported.{Reported}
use Rattle.live_server.specs.declared.unreached.Reported.TheVariants.{HalfOpen, Open, Stray}
use Rattle.udp_codec.specs.ReadAgain.{text_in as ordered_text}
use Rattle.live_server.specs.Acts.{is_over, sent_by, no_measures}
use Rattle.live_server.specs.Addresses.{is_for_us, is_to_us}
use Rattle.live_server.specs.Frames.{FrameOf, on_frame, serves_frames}
use Rattle.live_server.specs.Initial.{number_for}
use Rattle.live_server.specs.Isolation.{IsTable, staying}
use Rattle.live_server.specs.Leaving.{is_leaving, shed_ends}
use Rattle.live_server.specs.PathMtu.{text_in_mtu}
use Rattle.live_server.specs.Orders.{order_in}
use Rattle.live_server.specs.Services.{is_served_at}
use Rattle.live_server.specs.Serving.{Outcome, ServerOf, echoes, has_place, heeded, heeded_text, is_echoed, is_waiting, limited, makes_place, measures_of, obeys}
use Rattle.live_server.specs.Serving.{noting, numbered, refused, served, time_to, urges_own, yields}
use Rattle.live_server.specs.Table.{Conns, all_reached, conn_at, place_of, without_over}
use Rattle.live_server.specs.declared.conn.Conn.{Conn}
use Rattle.live_server.specs.declared.setting.Setting.{Setting}
use Rattle.live_chats.specs.Chats.{Step, chats_of, fresh, leaves, opens, path, runs, segment, sends, tells, time, urgent}
use Rattle.live_server.specs.declared.measures.Measures.{Measures}

-- the connection of two ends gives way, where it is half open and was opened with this number
abbrev pub way_yields : Tuple × ℕ → ServerOf → List Step
way_yields w sv = option_map_or (λ place. if is_waiting w.1 (conn_at place sv.conns) then tells w.0 leaves ∷ [] else []) (place_of w.0 sv.conns) []

abbrev pub way_yielding : List (Tuple × ℕ) → ServerOf → List Step
way_yielding [] sv = []
way_yielding (w ∷ ws) sv =
    if has_place sv then [] else way_yields w (record sv { waiting = ws }) ++ way_yielding ws (yields w (record sv { waiting = ws }))

abbrev pub way_takes : Tuple → Conn → ServerOf → List Step
way_takes t c sv = if has_place sv then tells t (opens (numbered sv c)) ∷ [] else []

unfoldable pub way_admits : ℕ → Seg → List ℕ → ServerOf → List Step
way_admits now s text sv =
    let c = served now s text sv (fresh sv.setting now s) in
    if is_over c then sends (sent_by (tuple_of s) c) ∷ [] else way_yielding sv.waiting sv ++ way_takes (tuple_of s) c (makes_place sv)

unfoldable pub way_opens : ℕ → Seg → List ℕ → ServerOf → List Step
way_opens now s text sv = if sv.draining then sends (refused sv.setting.marking now s) ∷ [] else way_admits now s text sv

abbrev pub way_goes_on : ℕ → Seg → List ℕ → ServerOf → List Step
way_goes_on now s text sv = tells (tuple_of s) (segment now (number_for sv.secret now s) s text) ∷ []

unfoldable pub way_comes : ℕ → Seg → List ℕ → ServerOf → List Step
way_comes now s text sv = option_map_or (λ place. way_goes_on now s text sv) (place_of (tuple_of s) sv.conns) (way_opens now s text sv)

unfoldable pub way_heeds : ℕ → Seg → List ℕ → ServerOf → List Step
way_heeds now s text sv = way_comes now (heeded s text sv) (heeded_text text sv) (noting text sv)

abbrev pub way_time_to : ℕ → Tuple → ServerOf → List Step
way_time_to now t sv = option_map_or (λ place. tells t (time no_measures now) ∷ []) (place_of t sv.conns) []

unfoldable pub way_segment : ℕ → Seg → List ℕ → ServerOf → List Step
way_segment now s text sv = way_time_to now (tuple_of s) sv ++ way_heeds now s text (time_to now (tuple_of s) sv).server

-- where urgent data ends is told to the segment's own connection
unfoldable pub way_urging : ℕ → Option ℕ → Seg → ServerOf → List Step
way_urging now None s sv = []
way_urging now (Some pointer) s sv = option_map_or (λ place. tells (tuple_of s) (urgent now pointer s) ∷ []) (place_of (tuple_of s) sv.conns) []

unfoldable pub way_urgent : ℕ → Option ℕ → Seg → List ℕ → ServerOf → List Step
way_urgent now pointer s text sv = way_urging now pointer s sv ++ way_segment now s text (urges_own now pointer s sv).server

unfoldable pub way_addressed : ℕ → Option ℕ → Seg → List ℕ → ServerOf → List Step
way_addressed now pointer s text sv =
    if not (is_for_us sv.setting s) then []
    else if is_served_at sv.setting.ports s.dst_port then way_urgent now pointer (limited sv.setting.segment s) text sv
    else sends (refused sv.setting.marking now s) ∷ []

unfoldable pub way_too_long : TooLong → ServerOf → List Step
way_too_long x sv =
    if is_to_us sv.setting x.src x.dst then option_map_or (λ place. tells x.ends (path x.seq (text_in_mtu x.mtu)) ∷ []) (place_of x.ends sv.conns) [] else []

-- where a segment didn't arrive, its connection leaves if it is half open
abbrev pub way_unreached : Reported → Tuple → List Step
way_unreached Stray t = []
way_unreached Open t = []
way_unreached HalfOpen t = tells t leaves ∷ []

unfoldable pub way_unreachable : Unreachable → ServerOf → List Step
way_unreachable x sv =
    if is_to_us sv.setting x.src x.dst then option_map_or (λ place. way_unreached (reported x.seq (conn_at place sv.conns)) x.ends) (place_of x.ends sv.conns) []
    else []

unfoldable pub way_other : ℕ → Option PingOf → ServerOf → List Step
way_other now None sv = []
way_other now (Some p) sv = if is_echoed p sv then sends (echoes now p sv).sent ∷ [] else []

unfoldable pub way_protocol : ℕ → List ℕ → ServerOf → List Step
way_protocol now body sv = option_map_or (λ u. sends (obeys now u (ordered_text u body) sv).sent ∷ []) (order_in sv.setting body) (way_other now (ping_in body) sv)

unfoldable pub way_report : ℕ → List ℕ → ServerOf → List Step
way_report now body sv = option_map_or (λ x. way_unreachable x sv) (unreachable_in body) (way_protocol now body sv)

unfoldable pub way_packet : ℕ → List ℕ → Packet → ServerOf → List Step
way_packet now body (packet.Segment s) sv = way_addressed now (urgent_in s body) (as_reset s) (reset_text s (text_in s body)) sv
way_packet now body packet.Other sv = option_map_or (λ x. way_too_long x sv) (too_long_in body) (way_report now body sv)
way_packet now body packet.Fragment sv = []
way_packet now body packet.Cut sv = []
way_packet now body (packet.Malformed why) sv = []
way_packet now body packet.BadSum sv = []

unfoldable pub way_datagram : ℕ → List ℕ → ServerOf → List Step
way_datagram now body sv = way_packet now body (packet_in RawIp body true) sv

-- each of these is told something
abbrev pub telling_time : Measures → ℕ → Conns → List Step
telling_time measures now cs = map (λ c. tells c.0 (time measures now)) cs

abbrev pub telling_leave : Conns → List Step
telling_leave cs = map (λ c. tells c.0 leaves) cs

-- those that leave in time
abbrev pub leaving_of : Setting → ℕ → Conns → Conns
leaving_of g now cs = filter (λ c. is_leaving g now (length cs) c.1) cs

-- the one that leaves for others, where one does
abbrev pub telling_shed : Option Tuple → List Step
telling_shed None = []
telling_shed (Some t) = tells t leaves ∷ []

unfoldable pub way_time : ℕ → ServerOf → List Step
way_time now sv =
    (telling_time (measures_of sv) now sv.conns ++ telling_leave (leaving_of sv.setting now (without_over (all_reached (measures_of sv) now sv.conns))))
    ++ telling_shed (shed_ends sv.setting sv.turned (staying now sv))

abbrev pub way_of : FrameOf → ServerOf → List Step
way_of f sv = if length f.body == 0 then way_time f.at sv else way_datagram f.at f.body sv

abbrev pub ways : List FrameOf → ServerOf → List Step
ways [] sv = []
ways (f ∷ fs) sv = way_of f sv ++ ways fs (on_frame f sv).server

-- steps make of the chats of a server what it becomes, and send what it sends
abbrev pub Shows : ServerOf → List Step → Outcome → Type 0
Shows sv ws o = runs sv.setting ws (chats_of sv) ≡ record { chats = chats_of o.server; sent = o.sent }

-- one server is its chats, told what its ways tell
abbrev pub ServerIsChats : Type 0
ServerIsChats = (frames : List FrameOf) (sv : ServerOf) → IsTable sv → Shows sv (ways frames sv) (serves_frames frames sv)
