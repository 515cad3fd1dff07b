-- The reply to an echo request, in bytes (RFC 792; RFC 791, 3.1; RFC 1122, 3.2.2.6).
use Rattle.std.specs.Prelude.{ℕ, ◌+◌, ◌-◌, List, ◌∷◌, ◌++◌, length}
use Rattle.sq_base.specs.InternetSum.{word_sum, reduced}
use Rattle.byteorder.specs.Endian.{big_bytes}
use Rattle.icmp_codec.specs.Limits.{ip_header_size, icmp_header_size}
use Rattle.icmp_codec.specs.EchoRequest.{PingOf}

-- the IPv4 header with this total length and this checksum, from the one that was asked to the one that asks: no fragment, TTL 64, protocol 1
abbrev pub ip_with : PingOf → ℕ → ℕ → List ℕ
ip_with p total sum = 0x45 ∷ 0 ∷ (big_bytes 2 total ++ (0 ∷ 0 ∷ 0x40 ∷ 0 ∷ 0x40 ∷ 1 ∷ (big_bytes 2 sum ++ (big_bytes 4 p.dst.0 ++ big_bytes 4 p.src.0))))

-- the reply with this checksum: type 0, code 0, and the rest as it came
abbrev pub pong_with : PingOf → ℕ → List ℕ
pong_with p sum = 0 ∷ 0 ∷ (big_bytes 2 sum ++ p.rest)

-- a checksum is the complement of the sum with its own field 0
unfoldable pub ip_sum : PingOf → ℕ → ℕ
ip_sum p total = 0xffff - reduced (word_sum (ip_with p total 0))

unfoldable pub pong_sum : PingOf → ℕ
pong_sum p = 0xffff - reduced (word_sum (pong_with p 0))

abbrev pub total_of : PingOf → ℕ
total_of p = ip_header_size + icmp_header_size + length p.rest

unfoldable pub pong_bytes : PingOf → List ℕ
pong_bytes p = ip_with p (total_of p) (ip_sum p (total_of p)) ++ pong_with p (pong_sum p)
