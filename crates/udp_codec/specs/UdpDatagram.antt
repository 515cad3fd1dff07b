-- The UDP datagram in a record's bytes (RFC 768): link, IPv4 (RFC 791, 3.1), UDP.
use Rattle.std.specs.Prelude.{ℕ, ◌+◌, ◌-◌, ◌*◌, ◌==◌, nat_le, ◌&&◌, ◌||◌, Bool, List, length, drop, take, Option, None, Some, if◌then◌else◌, bit_and}
use Rattle.std.specs.Option.{option_and_then}
use Rattle.std.specs.Result.{result_ok}
use Rattle.sq_base.specs.declared.kinds.Link.{Link}
use Rattle.segment_codec.specs.Places.{byte, word, long, high, low}
use Rattle.segment_codec.specs.Packet.{ip_place, total_of}
use Rattle.udp_codec.specs.declared.datagram.Udp.{Udp}
use Rattle.udp_codec.specs.Limits.{ip_header_size, most_length, udp_header_size}

-- the IPv4 header's length
abbrev pub header_of : List ℕ → ℕ
header_of ip = 4 * low (byte ip 0)

-- a datagram of IPv4 and protocol 17 that is whole, and no fragment: the more-fragments bit and the offset are 0
unfoldable pub is_whole : List ℕ → Bool
is_whole ip =
    nat_le ip_header_size (length ip)
    && ((high (byte ip 0) == 4)
    && (nat_le ip_header_size (header_of ip)
    && (((word ip 2 == 0) || nat_le (header_of ip) (word ip 2))
    && ((bit_and (word ip 6) 0x3fff == 0)
    && ((byte ip 9 == 17)
    && (nat_le (total_of ip) (length ip) && nat_le (header_of ip) (length ip)))))))

-- what follows the IPv4 header; the bytes past the total length are padding
unfoldable pub part_of : List ℕ → List ℕ
part_of ip = drop (header_of ip) (take (total_of ip) ip)

-- the UDP length counts header and text, and the part holds them
abbrev pub is_udp : List ℕ → Bool
is_udp part =
    nat_le udp_header_size (length part)
    && (nat_le udp_header_size (word part 4) && (nat_le (word part 4) (length part) && nat_le (word part 4) most_length))

-- the fields of a datagram that begins at this place of the record's body
unfoldable pub udp_of : List ℕ → ℕ → Udp
udp_of ip at = record {
  src = record { 0 = long ip 12 };
  src_port = word (part_of ip) 0;
  dst = record { 0 = long ip 16 };
  dst_port = word (part_of ip) 2;
  text_from = at + header_of ip + udp_header_size;
  text_len = word (part_of ip) 4 - udp_header_size;
}

abbrev pub udp_at : List ℕ → ℕ → Option Udp
udp_at ip at = if is_whole ip && is_udp (part_of ip) then Some (udp_of ip at) else None

-- the UDP datagram in a record's body, under its link
abbrev pub udp_in : Link → List ℕ → Option Udp
udp_in link body = option_and_then (λ at. udp_at (drop at body) at) (result_ok (ip_place link body))
