-- What holds of every table, and what a segment does to others.
use Rattle.std.specs.Prelude.{◌≡◌, ℕ, ◌+◌, ◌≤◌, ◌⊎◌, ◌||◌, Bool, true, false, List, length, All, Contains, Option, None, Some, IfSome, option_map, if◌then◌else◌}
use Rattle.std.specs.List.{IsDistinct}
use Rattle.std.specs.Map.{keys_of, lookup}
use Rattle.std.specs.Option.{option_map_or}
use Rattle.icmp_codec.specs.TooLong.{too_long_in}
use Rattle.icmp_codec.specs.declared.too_long.TooLong.{TooLong}
use Rattle.icmp_codec.specs.declared.unreachable.Unreachable.{Unreachable}
use Rattle.segment_codec.specs.Packet.{packet_in}
use Rattle.segment_codec.specs.Refusal.{tuple_of}
use Rattle.segment_codec.specs.declared.packet.Packet.TheVariants.{Segment}
use Rattle.segment_codec.specs.declared.packet.Reply.{Reply}
use Rattle.segment_codec.specs.declared.packet.Seg.{Seg}
use Rattle.sq_base.specs.declared.kinds.Link.TheVariants.{RawIp}
use Rattle.sq_base.specs.declared.kinds.Tuple.{Tuple}
use Rattle.live_server.specs.Acts.{datagram_of, emptied, is_half_open, is_over, reached, receives}
use Rattle.live_server.specs.Addresses.{is_to_us}
use Rattle.live_server.specs.Counting.{more}
use Rattle.live_server.specs.Initial.{number_for}
use Rattle.live_server.specs.Leaving.{is_leaving, shed_ends, without_leaving}
use Rattle.live_server.specs.PathMtu.{path_told, text_in_mtu}
use Rattle.live_server.specs.Serving.{ServerOf, heeded, heeded_text, makes_place, on_segment, on_time, on_too_long, on_unreachable, passes_over, timed, measures_of, urges_own}
use Rattle.live_server.specs.Table.{Conns, all_reached, tuple_eq, without_over}
use Rattle.live_server.specs.Unreached.{is_under_way}
use Rattle.live_server.specs.Urgent.{is_news, urged}
use Rattle.live_server.specs.declared.acting.Datagram.{Datagram}
use Rattle.live_server.specs.declared.conn.Conn.{Conn}
use Rattle.live_server.specs.declared.marking.Marking.{Marking}

-- each connection stands once, and there are no more than there are places
pub record IsTable (sv : ServerOf) : Type 0 where
  pub once : IsDistinct tuple_eq (keys_of sv.conns)
  pub bounded : length sv.conns ≤ sv.setting.places

-- a segment and the time keep that
abbrev pub SegmentKeepsTable : Type 0
SegmentKeepsTable = (now : ℕ) (s : Seg) (text : List ℕ) (sv : ServerOf) → IsTable sv → IsTable (on_segment now s text sv).server

abbrev pub TimeKeepsTable : Type 0
TimeKeepsTable = (now : ℕ) (sv : ServerOf) → IsTable sv → IsTable (on_time now sv).server

-- the connection of two ends, where the table has it
abbrev pub conn_of : Tuple → ServerOf → Option Conn
conn_of t sv = lookup (tuple_eq t) sv.conns

-- a connection as it stands in the table, where it isn't over
abbrev pub kept_as : Conn → Option Conn
kept_as c = if is_over c then None else Some (emptied c)

-- what the definition of an act makes of a connection, after the time came to it
abbrev pub acted : ℕ → Seg → List ℕ → List ℕ → Conn → Conn
acted now s text secret c = receives now (number_for secret now s) s text (emptied (reached now c))

-- the segment's own connection becomes that, its text only where all may hold it
abbrev pub OwnConnActs : Type 0
OwnConnActs = (now : ℕ) (s : Seg) (text : List ℕ) (sv : ServerOf) (c : Conn) → IsTable sv → conn_of (tuple_of s) sv ≡ Some c → is_over (reached now c) ≡ false
    → conn_of (tuple_of s) (on_segment now s text sv).server ≡ kept_as (acted now (heeded s text sv) (heeded_text text sv) sv.secret c)

-- a connection stays as it was, or it was half open and left
abbrev pub Stays : Tuple → ServerOf → ServerOf → Type 0
Stays q before after = (conn_of q after ≡ conn_of q before) ⊎ ((conn_of q after ≡ None) × IfSome (conn_of q before) (λ c. is_half_open c ≡ true))

-- every other connection does
abbrev pub OthersStay : Type 0
OthersStay = (now : ℕ) (s : Seg) (text : List ℕ) (sv : ServerOf) (other : Tuple) → IsTable sv → tuple_eq other (tuple_of s) ≡ false
    → Stays other sv (on_segment now s text sv).server

-- who gives way to a new connection is half open, and its own entry is among those that wait: one that comes again between the same ends
-- has its own age
abbrev pub OwnEntryGivesWay : Type 0
OwnEntryGivesWay = (q : Tuple) (sv : ServerOf) (c : Conn) → IsTable sv → conn_of q sv ≡ Some c
    → (conn_of q (makes_place sv) ≡ Some c) ⊎ ((is_half_open c ≡ true) × Contains sv.waiting (q, c.number))

-- who is neither over at a tick nor to leave
abbrev pub staying : ℕ → ServerOf → Conns
staying now sv = without_leaving sv.setting now (without_over (all_reached (measures_of sv) now sv.conns))

-- of those the one that leaves for others
abbrev pub is_shed : ℕ → ServerOf → Tuple → Bool
is_shed now sv q = option_map_or (λ t. tuple_eq t q) (shed_ends sv.setting sv.turned (staying now sv)) false

-- a tick leaves each connection as the time made it, but for one that is over, or is to leave, or leaves for others
abbrev pub TimeLeaves : Type 0
TimeLeaves = (now : ℕ) (q : Tuple) (sv : ServerOf) (c : Conn) → IsTable sv → conn_of q sv ≡ Some c
    → conn_of q (on_time now sv).server
    ≡ (if is_over (timed now sv c)
    || (is_leaving sv.setting now (length (without_over (all_reached (measures_of sv) now sv.conns))) (emptied (timed now sv c)) || is_shed now sv q) then None
    else Some (emptied (timed now sv c)))

-- where memory was missing, the connection of two ends is gone, and every other one stays
abbrev pub Loses : Tuple → ServerOf → ServerOf → Type 0
Loses t before after = IsTable before → IsTable after × (conn_of t after ≡ None) × ((q : Tuple) → tuple_eq t q ≡ false → Stays q before after)

-- what a segment costs there: its own connection at most
abbrev pub Costs : Seg → ServerOf → ServerOf → Type 0
Costs s before after = Loses (tuple_of s) before after ⊎ (after.conns ≡ before.conns)

-- What a datagram costs there: a segment its own connection at most; so does what a router says of a segment; and any other one nothing
abbrev pub CostsOf : List ℕ → ServerOf → ServerOf → Type 0
CostsOf body before after =
    ((s : Seg) × (packet_in RawIp body true ≡ Segment s) × Costs s before after)
    ⊎ (((x : TooLong) × (too_long_in body ≡ Some x) × Loses x.ends before after) ⊎ (after ≡ before))

-- and all else stays, but who may have to give way, four counts, and what is held, to which no more comes than so much text
abbrev pub KeepsRest : ℕ → ServerOf → ServerOf → Type 0
KeepsRest most before after =
    (after ≡ record before {
      conns = after.conns;
      waiting = after.waiting;
      held = after.held;
      counts = record before.counts {
        refused = after.counts.refused;
        gave_way = after.counts.gave_way;
        over_full = after.counts.over_full;
        urgent = after.counts.urgent;
      };
    }) × (before.held ≤ after.held) × (after.held ≤ before.held + most)

-- and what the time does: one connection is gone, and each other one is as it was, or as the time leaves it
abbrev pub LosesOne : ℕ → ServerOf → ServerOf → Type 0
LosesOne now before after = IsTable before → IsTable after × ((t : Tuple) × (conn_of t after ≡ None) × ((q : Tuple) → tuple_eq t q ≡ false
    → (conn_of q after ≡ conn_of q before) ⊎ (conn_of q after ≡ option_map (λ c. emptied (timed now before c)) (conn_of q before))))

-- What a router says of a segment that was too long is told to the segment's own connection, and only where it is for us. All others stay, and
-- what is sent goes to its two ends
pub record IsApart (x : TooLong) (sv : ServerOf) : Type 0 where
  pub table : IsTable (on_too_long x sv).server
  pub own : (c : Conn) → is_to_us sv.setting x.src x.dst ≡ true → conn_of x.ends sv ≡ Some c
      → conn_of x.ends (on_too_long x sv).server ≡ kept_as (path_told x.seq (text_in_mtu x.mtu) c)
  pub astray : is_to_us sv.setting x.src x.dst ≡ false → on_too_long x sv ≡ passes_over sv
  pub others : (q : Tuple) → tuple_eq x.ends q ≡ false → conn_of q (on_too_long x sv).server ≡ conn_of q sv
  pub sent : All (λ (d : Datagram). (m : Marking) × (r : Reply) × (d ≡ datagram_of m x.ends r)) (on_too_long x sv).sent

abbrev pub TooLongIsApart : Type 0
TooLongIsApart = (x : TooLong) (sv : ServerOf) → IsTable sv → IsApart x sv

-- No message of a router that a segment didn't arrive ends an open connection, whoever sends it (RFC 9293, 3.9.2.2): at most a half-open one of its
-- ends leaves. And it counts for nothing where no segment of its number is under way
pub record IsHarmless (x : Unreachable) (sv : ServerOf) : Type 0 where
  pub table : IsTable (on_unreachable x sv)
  pub kept : (q : Tuple) (c : Conn) → conn_of q sv ≡ Some c → is_half_open c ≡ false → conn_of q (on_unreachable x sv) ≡ Some c
  pub stays : (q : Tuple) → Stays q sv (on_unreachable x sv)
  pub others : (q : Tuple) → tuple_eq x.ends q ≡ false → conn_of q (on_unreachable x sv) ≡ conn_of q sv
  pub stray : (c : Conn) → conn_of x.ends sv ≡ Some c → is_under_way x.seq c ≡ false → on_unreachable x sv ≡ (passes_over sv).server

abbrev pub ReportIsHarmless : Type 0
ReportIsHarmless = (x : Unreachable) (sv : ServerOf) → IsTable sv → IsHarmless x sv

-- What a segment says of urgent data is told to its own connection alone, and counts where it is news there (RFC 9293, 3.8.5)
pub record IsToldItsOwn (now pointer : ℕ) (s : Seg) (sv : ServerOf) : Type 0 where
  pub table : IsTable (urges_own now (Some pointer) s sv).server
  pub own : (c : Conn) → conn_of (tuple_of s) sv ≡ Some c → conn_of (tuple_of s) (urges_own now (Some pointer) s sv).server ≡ kept_as (urged now pointer s c)
  pub others : (q : Tuple) → tuple_eq (tuple_of s) q ≡ false → conn_of q (urges_own now (Some pointer) s sv).server ≡ conn_of q sv
  pub counts : (c : Conn) → conn_of (tuple_of s) sv ≡ Some c → (urges_own now (Some pointer) s sv).server.counts
      ≡ (if is_news now pointer s c then record sv.counts { urgent = more 1 sv.counts.urgent } else sv.counts)

abbrev pub UrgentIsItsOwn : Type 0
UrgentIsItsOwn = (now pointer : ℕ) (s : Seg) (sv : ServerOf) → IsTable sv → IsToldItsOwn now pointer s sv

-- what is sent for a segment goes to its own ends
abbrev pub AnswersItsEnds : Type 0
AnswersItsEnds = (now : ℕ) (s : Seg) (text : List ℕ) (sv : ServerOf)
    → All (λ (d : Datagram). (m : Marking) × (r : Reply) × (d ≡ datagram_of m (tuple_of s) r)) (on_segment now s text sv).sent
