-- The messages of a router that a datagram didn't arrive: destination unreachable, time exceeded, parameter problem
-- (RFC 792; RFC 1122, 3.2.2; RFC 9293, 3.9.2.2). Fragmentation needed is another one: TooLong.
use Rattle.std.specs.Prelude.{ℕ, ◌≡◌, ◌+◌, ◌==◌, nat_le, nat_lt, ◌&&◌, ◌||◌, Bool, List, length, Option, None, Some, option_map}
use Rattle.std.specs.Prelude.{if◌then◌else◌}
use Rattle.sq_base.specs.declared.kinds.Link.TheVariants.{RawIp}
use Rattle.segment_codec.specs.Packet.{packet_in}
use Rattle.segment_codec.specs.declared.packet.Packet.TheVariants as packet
use Rattle.segment_codec.specs.Places.{byte, long}
use Rattle.icmp_codec.specs.EchoRequest.{is_icmp, message_of, ping_in, sum_holds}
use Rattle.icmp_codec.specs.Limits.{ip_header_size, quote_at, quoted_size}
use Rattle.icmp_codec.specs.TooLong.{quoted_ends, too_long_in}
use Rattle.icmp_codec.specs.declared.unreachable.Cause.{Cause}
use Rattle.icmp_codec.specs.declared.unreachable.Cause.TheVariants.{Away, Parameter, Port, Prohibited, TimeExceeded}
use Rattle.icmp_codec.specs.declared.unreachable.Unreachable.{Unreachable}

-- destination unreachable, by its code: 0 net, 1 host, 2 protocol, 3 port, 5 source route, 6 and 7 unknown, 8 isolated,
-- 9, 10 and 13 prohibited, 11 and 12 for this type of service (RFC 1122, 3.2.2.1; RFC 1812, 5.2.7.1)
unfoldable pub away_by : ℕ → Option Cause
away_by code =
    if (code == 4) || nat_lt 13 code then None
    else if (code == 2) || (code == 3) then Some Port
    else if (code == 9) || ((code == 10) || (code == 13)) then Some Prohibited
    else Some Away

-- why a datagram didn't arrive, by type and code
unfoldable pub cause_by : ℕ → ℕ → Option Cause
cause_by kind code =
    if kind == 3 then away_by code
    else if kind == 11 then Some TimeExceeded
    else if kind == 12 then Some Parameter
    else None

-- a right sum, and quoted are an IPv4 header without options of TCP, and the first 8 bytes behind it
unfoldable pub quotes_segment : List ℕ → Bool
quotes_segment message =
    nat_le (quote_at + quoted_size) (length message)
    && ((byte message quote_at == 0x45) && ((byte message (quote_at + 9) == 6) && sum_holds message))

-- who says so to whom, the two ends and the sequence number of the segment, and why
unfoldable pub reported_in : List ℕ → Cause → Unreachable
reported_in ip cause = record {
  src = record { 0 = long ip 12 };
  dst = record { 0 = long ip 16 };
  ends = quoted_ends (message_of ip);
  seq = long (message_of ip) (quote_at + ip_header_size + 4);
  cause = cause;
}

unfoldable pub unreachable_in : List ℕ → Option Unreachable
unreachable_in ip =
    if is_icmp ip && quotes_segment (message_of ip) then option_map (reported_in ip) (cause_by (byte (message_of ip) 0) (byte (message_of ip) 1))
    else None

-- laws: such a message is none of a datagram that was too long, no echo request, and no segment
abbrev pub IsNotTooLong : Type 0
IsNotTooLong = (ip : List ℕ) (x : Unreachable) → unreachable_in ip ≡ Some x → too_long_in ip ≡ None

abbrev pub IsNotPing : Type 0
IsNotPing = (ip : List ℕ) (x : Unreachable) → unreachable_in ip ≡ Some x → ping_in ip ≡ None

abbrev pub IsNotSegment : Type 0
IsNotSegment = (ip : List ℕ) (x : Unreachable) (verify : Bool) → unreachable_in ip ≡ Some x → packet_in RawIp ip verify ≡ packet.Other
