-- Only an order of the host begins a drain.
use Rattle.std.proofs.Common.{◌≡◌, ℕ, ◌&&◌, not, Bool, true, false, cond, List, [], ◌∷◌, Option, None, Some, bytes_eq, codes, refl, sym, ◌∙◌, true≢false}
use Rattle.std.specs.Option.{option_map_or}
use Rattle.std.proofs.lemmas.Slice.Eq.{bytes_eq-Decides}
use Rattle.icmp_codec.specs.EchoRequest.{PingOf, ping_in}
use Rattle.icmp_codec.specs.TooLong.{too_long_in}
use Rattle.icmp_codec.specs.declared.too_long.TooLong.{TooLong}
use Rattle.icmp_codec.specs.Unreachable.{unreachable_in}
use Rattle.icmp_codec.specs.declared.unreachable.Unreachable.{Unreachable}
use Rattle.segment_codec.specs.Packet.{packet_in}
use Rattle.segment_codec.specs.Refusal.{tuple_of}
use Rattle.segment_codec.specs.SentIsRead.{text_in}
use Rattle.segment_codec.specs.declared.packet.Packet.{Packet}
use Rattle.segment_codec.specs.declared.packet.Packet.TheVariants as packet
use Rattle.segment_codec.specs.declared.packet.Seg.{Seg}
use Rattle.sq_base.specs.declared.kinds.Link.TheVariants.{RawIp}
use Rattle.sq_base.specs.declared.kinds.Tuple.{Tuple}
use Rattle.udp_codec.specs.ReadAgain.{text_in as ordered_text}
use Rattle.udp_codec.specs.declared.datagram.Udp.{Udp}
use Rattle.live_server.specs.Acts.{is_over, new_conn, reached}
use Rattle.live_server.specs.Addresses.{is_for_us, is_to_us}
use Rattle.live_server.specs.Counting.{more}
use Rattle.live_server.specs.Draining.{HostDrains, OrdersDrain, TimeKeepsDrain}
use Rattle.live_server.specs.Orders.{order_in}
use Rattle.live_server.specs.PathMtu.{shortens, text_in_mtu}
use Rattle.live_server.specs.Services.{is_served_at, service_at}
use Rattle.live_server.specs.Serving.{ServerOf, addressed, admits, becomes, comes, counting_path, counting_urgent, on_urgent, urges_at, urges_own, echoes, fits, gives_way, goes_on, has_place, heeded, heeded_text, heeds, holding, is_echoed, is_waiting, limited, makes_place, noting, obeys, on_datagram, on_other, on_packet, on_protocol, on_report, on_segment, on_time, on_too_long, on_unreachable, opens, overfull, passes_over, refuses, sends_nothing, sends_of, served, shortens_at, takes_free, takes_place, tells_counts, time_to, turns_away, unreached, unreached_at, yielding, yields, yields_at}
use Rattle.live_server.specs.Table.{conn_at, place_of}
use Rattle.live_server.specs.Unreached.{reported}
use Rattle.live_server.specs.Urgent.{as_reset, reset_text, urgent_in, urges}
use Rattle.live_server.specs.declared.conn.Conn.{Conn}
use Rattle.live_server.specs.declared.unreached.Reported.{Reported}
use Rattle.live_server.specs.declared.unreached.Reported.TheVariants.{HalfOpen, Open, Stray}
use Rattle.live_server.specs.declared.conn.Met.{Met}
use Rattle.live_server.specs.declared.conn.Met.TheVariants.{Gone, Judged as judges}

-- ---- a segment
yielded_drains : (w : Tuple × ℕ) (sv : ServerOf) → (yields w sv).draining ≡ sv.draining
unfolding yields yields_at
yielded_drains w sv = by (place_of w.0 sv.conns)
  where
    at : (i : ℕ) (b : Bool) → (cond b (gives_way i sv) sv).draining ≡ sv.draining
    at i true = refl
    at i false = refl

    by : (r : Option ℕ) → (option_map_or (λ place. yields_at w.1 place sv) r sv).draining ≡ sv.draining
    by None = refl
    by (Some i) = at i (is_waiting w.1 (conn_at i sv.conns))

yielding_drains : (ws : List (Tuple × ℕ)) (sv : ServerOf) → (yielding ws sv).draining ≡ sv.draining
yielding_drains [] sv = refl
yielding_drains (w ∷ ws) sv = by (has_place sv) (yielding_drains ws (yields w (record sv { waiting = ws })) ∙ yielded_drains w (record sv { waiting = ws }))
  where
    by : (b : Bool) → (yielding ws (yields w (record sv { waiting = ws }))).draining ≡ sv.draining → (cond b sv (yielding ws (yields w (record sv { waiting = ws })))).draining ≡ sv.draining
    by true h = refl
    by false h = h

admitted_drains : (now : ℕ) (s : Seg) (text : List ℕ) (sv : ServerOf) → (admits now s text sv).server.draining ≡ sv.draining
unfolding admits takes_place
admitted_drains now s text sv = by (is_over fresh)
  where
    fresh : Conn
    fresh = served now s text sv (new_conn (service_at sv.setting now s.dst_port) sv.setting.segment sv.setting.marking now)

    placed : (b : Bool) → (cond b (takes_free (tuple_of s) fresh (makes_place sv)) (turns_away (tuple_of s) (makes_place sv))).server.draining ≡ sv.draining
    placed true = yielding_drains sv.waiting sv
    placed false = yielding_drains sv.waiting sv

    by : (b : Bool) → (cond b (sends_of (tuple_of s) fresh sv) (takes_place (tuple_of s) fresh (makes_place sv))).server.draining ≡ sv.draining
    by true = refl
    by false = placed (has_place (makes_place sv))

opened_drains : (now : ℕ) (s : Seg) (text : List ℕ) (sv : ServerOf) → (opens now s text sv).server.draining ≡ sv.draining
unfolding opens
opened_drains now s text sv = by sv.draining
  where
    by : (b : Bool) → (cond b (refuses now s sv) (admits now s text sv)).server.draining ≡ sv.draining
    by true = refl
    by false = admitted_drains now s text sv

came_drains : (now : ℕ) (s : Seg) (text : List ℕ) (sv : ServerOf) → (comes now s text sv).server.draining ≡ sv.draining
unfolding comes goes_on becomes
came_drains now s text sv = by (place_of (tuple_of s) sv.conns)
  where
    by : (r : Option ℕ) → (option_map_or (λ place. goes_on now s text place sv) r (opens now s text sv)).server.draining ≡ sv.draining
    by None = opened_drains now s text sv
    by (Some i) = refl

timed_drains : (now : ℕ) (t : Tuple) (sv : ServerOf) → (time_to now t sv).server.draining ≡ sv.draining
unfolding time_to becomes
timed_drains now t sv = by (place_of t sv.conns)
  where
    by : (r : Option ℕ) → (option_map_or (λ place. becomes place t (reached now (conn_at place sv.conns)) sv) r (sends_nothing sv)).server.draining ≡ sv.draining
    by None = refl
    by (Some i) = refl

heeded_drains : (now : ℕ) (s : Seg) (text : List ℕ) (sv : ServerOf) → (heeds now s text sv).server.draining ≡ sv.draining
unfolding heeds
heeded_drains now s text sv = came_drains now (heeded s text sv) (heeded_text text sv) (noting text sv) ∙ by (fits text sv)
  where
    by : (b : Bool) → (cond b (holding text sv) (overfull sv)).draining ≡ sv.draining
    by true = refl
    by false = refl

segment_drains : (now : ℕ) (s : Seg) (text : List ℕ) (sv : ServerOf) → (on_segment now s text sv).server.draining ≡ sv.draining
unfolding on_segment
segment_drains now s text sv = heeded_drains now s text (time_to now (tuple_of s) sv).server ∙ timed_drains now (tuple_of s) sv

urging_drains : (now : ℕ) (pointer : Option ℕ) (s : Seg) (sv : ServerOf) → (urges_own now pointer s sv).server.draining ≡ sv.draining
unfolding urges_own urges_at becomes
urging_drains now None s sv = refl
urging_drains now (Some pointer) s sv = by (place_of (tuple_of s) sv.conns)
  where
    counted : (m : Met) → (counting_urgent m sv).draining ≡ sv.draining
    counted Gone = refl
    counted (judges j) = refl

    by : (r : Option ℕ) → (option_map_or (λ place. urges_at now pointer s place sv) r (sends_nothing sv)).server.draining ≡ sv.draining
    by None = refl
    by (Some i) = counted (urges now pointer s (tuple_of s) (conn_at i sv.conns)).met

urgent_drains : (now : ℕ) (pointer : Option ℕ) (s : Seg) (text : List ℕ) (sv : ServerOf) → (on_urgent now pointer s text sv).server.draining ≡ sv.draining
unfolding on_urgent
urgent_drains now pointer s text sv = segment_drains now s text (urges_own now pointer s sv).server ∙ urging_drains now pointer s sv

addressed_drains : (now : ℕ) (pointer : Option ℕ) (s : Seg) (text : List ℕ) (sv : ServerOf) → (addressed now pointer s text sv).server.draining ≡ sv.draining
unfolding addressed
addressed_drains now pointer s text sv = by (not (is_for_us sv.setting s)) (is_served_at sv.setting.ports s.dst_port)
  where
    s1 : Seg
    s1 = limited sv.setting.segment s

    by : (a b : Bool) → (cond a (sends_nothing (record sv { counts = record sv.counts { astray = more 1 sv.counts.astray } })) (cond b (on_urgent now pointer s1 text sv) (refuses now s sv))).server.draining ≡ sv.draining
    by true b = refl
    by false true = urgent_drains now pointer s1 text sv
    by false false = refl

-- ---- other datagrams
too_long_drains : (x : TooLong) (sv : ServerOf) → (on_too_long x sv).server.draining ≡ sv.draining
unfolding on_too_long shortens_at becomes
too_long_drains x sv = by (is_to_us sv.setting x.src x.dst) (place_of x.ends sv.conns)
  where
    counted : (m : Met) → (counting_path m sv).draining ≡ sv.draining
    counted Gone = refl
    counted (judges j) = refl

    by : (b : Bool) (r : Option ℕ) → (cond b (option_map_or (λ place. shortens_at x place sv) r (passes_over sv)) (passes_over sv)).server.draining ≡ sv.draining
    by true None = refl
    by true (Some i) = counted (shortens x.seq (text_in_mtu x.mtu) x.ends (conn_at i sv.conns)).met
    by false r = refl

other_drains : (now : ℕ) (p : Option PingOf) (sv : ServerOf) → (on_other now p sv).server.draining ≡ sv.draining
unfolding on_other
other_drains now None sv = refl
other_drains now (Some p) sv = by (is_echoed p sv)
  where
    by : (b : Bool) → (cond b (echoes now p sv) (passes_over sv)).server.draining ≡ sv.draining
    by true = refl
    by false = refl

-- ---- an order
-- a server that didn't drain, and does behind what left that as it was
never : {X : Type 0} (a b : Bool) → a ≡ b → b ≡ false → a ≡ true → X
never a b same idle drains = absurd (true≢false (sym drains ∙ same ∙ idle))

obeyed_drains : (now : ℕ) (u : Udp) (text : List ℕ) (sv : ServerOf) → sv.draining ≡ false → (obeys now u text sv).server.draining ≡ true → text ≡ codes "drain"
unfolding obeys
obeyed_drains now u text sv idle drains = (bytes_eq-Decides text (codes "drain")).0 (by (bytes_eq text (codes "drain")) (bytes_eq text (codes "counts") && not sv.told) drains)
  where
    by : (a b : Bool) → (cond a (sends_nothing (record sv { draining = true })) (cond b (tells_counts now u sv) (passes_over sv))).server.draining ≡ true → a ≡ true
    by true b is = refl
    by false true is = never sv.draining sv.draining refl idle is
    by false false is = never sv.draining sv.draining refl idle is

protocol_drains : (now : ℕ) (body : List ℕ) (sv : ServerOf) → sv.draining ≡ false → (on_protocol now body sv).server.draining ≡ true → OrdersDrain body sv
unfolding on_protocol
protocol_drains now body sv idle drains = by (order_in sv.setting body) refl drains
  where
    by : (r : Option Udp) → order_in sv.setting body ≡ r → (option_map_or (λ u. obeys now u (ordered_text u body) sv) r (on_other now (ping_in body) sv)).server.draining ≡ true → OrdersDrain body sv
    by None at is = never (on_other now (ping_in body) sv).server.draining sv.draining (other_drains now (ping_in body) sv) idle is
    by (Some u) at is = (u, at, obeyed_drains now u (ordered_text u body) sv idle is)

unreached_drains : (x : Unreachable) (sv : ServerOf) → (on_unreachable x sv).draining ≡ sv.draining
unfolding on_unreachable unreached_at
unreached_drains x sv = by (is_to_us sv.setting x.src x.dst) (place_of x.ends sv.conns)
  where
    met : (r : Reported) (i : ℕ) → (unreached r x.cause i sv).draining ≡ sv.draining
    met Stray i = refl
    met Open i = refl
    met HalfOpen i = refl

    by : (b : Bool) (r : Option ℕ) → (cond b (option_map_or (λ place. unreached_at x place sv) r (passes_over sv).server) (passes_over sv).server).draining ≡ sv.draining
    by true None = refl
    by true (Some i) = met (reported x.seq (conn_at i sv.conns)) i
    by false r = refl

report_drains : (now : ℕ) (body : List ℕ) (sv : ServerOf) → sv.draining ≡ false → (on_report now body sv).server.draining ≡ true → OrdersDrain body sv
unfolding on_report
report_drains now body sv idle drains = by (unreachable_in body) drains
  where
    by : (r : Option Unreachable) → (option_map_or (λ x. sends_nothing (on_unreachable x sv)) r (on_protocol now body sv)).server.draining ≡ true → OrdersDrain body sv
    by None is = protocol_drains now body sv idle is
    by (Some x) is = never (on_unreachable x sv).draining sv.draining (unreached_drains x sv) idle is

packet_drains : (now : ℕ) (body : List ℕ) (p : Packet) (sv : ServerOf) → sv.draining ≡ false → (on_packet now body p sv).server.draining ≡ true → OrdersDrain body sv
unfolding on_packet
packet_drains now body (packet.Segment s) sv idle drains = never (addressed now (urgent_in s body) (as_reset s) (reset_text s (text_in s body)) sv).server.draining sv.draining (addressed_drains now (urgent_in s body) (as_reset s) (reset_text s (text_in s body)) sv) idle drains
packet_drains now body packet.Other sv idle drains = by (too_long_in body) drains
  where
    by : (r : Option TooLong) → (option_map_or (λ x. on_too_long x sv) r (on_report now body sv)).server.draining ≡ true → OrdersDrain body sv
    by None is = report_drains now body sv idle is
    by (Some x) is = never (on_too_long x sv).server.draining sv.draining (too_long_drains x sv) idle is
packet_drains now body packet.Fragment sv idle drains = never sv.draining sv.draining refl idle drains
packet_drains now body packet.Cut sv idle drains = never sv.draining sv.draining refl idle drains
packet_drains now body (packet.Malformed why) sv idle drains = never sv.draining sv.draining refl idle drains
packet_drains now body packet.BadSum sv idle drains = never sv.draining sv.draining refl idle drains

pub host_drains : HostDrains
unfolding on_datagram
host_drains now body sv idle drains = packet_drains now body (packet_in RawIp body true) sv idle drains

pub time_keeps_drain : TimeKeepsDrain
unfolding on_time
time_keeps_drain now sv = refl
