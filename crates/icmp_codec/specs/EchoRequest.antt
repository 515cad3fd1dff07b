-- The echo message in an IPv4 datagram (RFC 792; RFC 791, 3.1).
use Rattle.std.specs.Prelude.{ℕ, ◌+◌, ◌==◌, nat_le, ◌&&◌, Bool, List, length, drop, take, Option, None, Some, if◌then◌else◌, bit_and}
use Rattle.sq_base.specs.InternetSum.{word_sum, reduced}
use Rattle.sq_base.specs.declared.kinds.Addr.{Addr}
use Rattle.segment_codec.specs.Places.{byte, word, long}
use Rattle.icmp_codec.specs.Limits.{ip_header_size, icmp_header_size, least_rest}

-- an echo message: both ends, and all that stands behind its checksum, which is identifier, sequence number and data
pub record PingOf : Type 0 where
  pub src : Addr
  pub dst : Addr
  pub rest : List ℕ

-- bytes with a checksum among them
abbrev pub sum_holds : List ℕ → Bool
sum_holds bytes = reduced (word_sum bytes) == 0xffff

-- a datagram of ICMP that is whole and holds an echo message: IPv4, no options, no fragment, protocol 1, and its header's sum is right
unfoldable pub is_icmp : List ℕ → Bool
is_icmp ip =
    nat_le ip_header_size (length ip)
    && ((byte ip 0 == 0x45)
    && (nat_le (ip_header_size + icmp_header_size + least_rest) (word ip 2)
    && (nat_le (word ip 2) (length ip)
    && ((bit_and (word ip 6) 0x3fff == 0)
    && ((byte ip 9 == 1) && sum_holds (take ip_header_size ip))))))

-- what follows the IPv4 header; the bytes past the total length are padding
abbrev pub message_of : List ℕ → List ℕ
message_of ip = drop ip_header_size (take (word ip 2) ip)

-- a message of this type, with code 0, and its sum is right
unfoldable pub is_echo : ℕ → List ℕ → Bool
is_echo kind message = (byte message 0 == kind) && ((byte message 1 == 0) && sum_holds message)

-- what such a message says
unfoldable pub message_in : List ℕ → PingOf
message_in ip = record {
  src = record { 0 = long ip 12 };
  dst = record { 0 = long ip 16 };
  rest = drop icmp_header_size (message_of ip);
}

unfoldable pub echo_in : ℕ → List ℕ → Option PingOf
echo_in kind ip = if is_icmp ip && is_echo kind (message_of ip) then Some (message_in ip) else None

-- an echo request, and an echo reply
abbrev pub ping_in : List ℕ → Option PingOf
ping_in ip = echo_in 8 ip

abbrev pub pong_in : List ℕ → Option PingOf
pong_in ip = echo_in 0 ip
