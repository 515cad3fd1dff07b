-- The message of a router that can't pass a datagram on whole: destination unreachable, fragmentation needed
-- (RFC 792; RFC 1191, 4; RFC 1812, 4.3.2.3).
use Rattle.std.specs.Prelude.{ℕ, ◌≡◌, ◌+◌, ◌==◌, nat_le, ◌&&◌, Bool, List, length, Option, None, Some, if◌then◌else◌}
use Rattle.sq_base.specs.declared.kinds.Tuple.{Tuple}
use Rattle.sq_base.specs.declared.kinds.Link.TheVariants.{RawIp}
use Rattle.segment_codec.specs.Packet.{packet_in}
use Rattle.segment_codec.specs.declared.packet.Packet.TheVariants as packet
use Rattle.segment_codec.specs.Places.{byte, word, long}
use Rattle.icmp_codec.specs.Limits.{ip_header_size, quote_at, quoted_size}
use Rattle.icmp_codec.specs.EchoRequest.{is_icmp, message_of, ping_in, sum_holds}
use Rattle.icmp_codec.specs.declared.too_long.TooLong.{TooLong}

-- type 3, code 4, and a right sum; quoted are an IPv4 header without options of TCP, and the first 8 bytes behind it
unfoldable pub is_too_long : List ℕ → Bool
is_too_long message =
    nat_le (quote_at + quoted_size) (length message)
    && ((byte message 0 == 3)
    && ((byte message 1 == 4)
    && ((byte message quote_at == 0x45)
    && ((byte message (quote_at + 9) == 6) && sum_holds message))))

-- the two ends by the datagram that was dropped: its sender is the server
abbrev pub quoted_ends : List ℕ → Tuple
quoted_ends message = record {
  client = record { 0 = long message (quote_at + 16) };
  client_port = word message (quote_at + ip_header_size + 2);
  server = record { 0 = long message (quote_at + 12) };
  server_port = word message (quote_at + ip_header_size);
}

-- who says so to whom, the two ends and the sequence number of the segment that was dropped, and how long a datagram the next path takes
unfoldable pub told_in : List ℕ → TooLong
told_in ip = record {
  src = record { 0 = long ip 12 };
  dst = record { 0 = long ip 16 };
  ends = quoted_ends (message_of ip);
  seq = long (message_of ip) (quote_at + ip_header_size + 4);
  mtu = word (message_of ip) 6;
}

unfoldable pub too_long_in : List ℕ → Option TooLong
too_long_in ip = if is_icmp ip && is_too_long (message_of ip) then Some (told_in ip) else None

-- laws: such a message is no echo request, and no segment
abbrev pub IsNoPing : Type 0
IsNoPing = (ip : List ℕ) (x : TooLong) → too_long_in ip ≡ Some x → ping_in ip ≡ None

abbrev pub IsNoSegment : Type 0
IsNoSegment = (ip : List ℕ) (x : TooLong) (verify : Bool) → too_long_in ip ≡ Some x → packet_in RawIp ip verify ≡ packet.Other
