-- A sent datagram in bytes (RFC 791, 3.1; RFC 768).
use Rattle.std.specs.Prelude.{ℕ, ◌+◌, ◌-◌, ◌==◌, List, ◌∷◌, ◌++◌, length, if◌then◌else◌}
use Rattle.sq_base.specs.InternetSum.{word_sum, reduced}
use Rattle.byteorder.specs.Endian.{big_bytes}
use Rattle.sq_base.specs.declared.kinds.Tuple.{Tuple}
use Rattle.udp_codec.specs.Limits.{ip_header_size, udp_header_size}

-- the IPv4 header with this total length and this checksum, from the tuple's server to its client: no fragment, TTL 64, protocol 17
abbrev pub ip_with : Tuple → ℕ → ℕ → List ℕ
ip_with t total sum = 0x45 ∷ 0 ∷ (big_bytes 2 total ++ (0 ∷ 0 ∷ 0x40 ∷ 0 ∷ 0x40 ∷ 17 ∷ (big_bytes 2 sum ++ (big_bytes 4 t.server.0 ++ big_bytes 4 t.client.0))))

-- the UDP part with this checksum
abbrev pub udp_with : Tuple → List ℕ → ℕ → List ℕ
udp_with t text sum = big_bytes 2 t.server_port ++ (big_bytes 2 t.client_port ++ (big_bytes 2 (udp_header_size + length text) ++ (big_bytes 2 sum ++ text)))

-- a checksum is the complement of the sum with its own field 0
unfoldable pub ip_sum : Tuple → ℕ → ℕ
ip_sum t total = 0xffff - reduced (word_sum (ip_with t total 0))

-- the sum of the UDP part with its pseudo-header: addresses, protocol 17, length of the part
abbrev pub whole_sum : Tuple → List ℕ → List ℕ → ℕ
whole_sum t text part = reduced (word_sum (big_bytes 4 t.server.0) + word_sum (big_bytes 4 t.client.0) + 17 + (udp_header_size + length text) + word_sum part)

-- a checksum of 0 would say that there is none: ffff is sent in its place
abbrev pub not_none : ℕ → ℕ
not_none sum = if sum == 0 then 0xffff else sum

unfoldable pub udp_sum : Tuple → List ℕ → ℕ
udp_sum t text = not_none (0xffff - whole_sum t text (udp_with t text 0))

-- the bytes of both headers and of a text
abbrev pub total_with : List ℕ → ℕ
total_with text = ip_header_size + udp_header_size + length text

unfoldable pub udp_bytes : Tuple → List ℕ → List ℕ
udp_bytes t text = ip_with t (total_with text) (ip_sum t (total_with text)) ++ udp_with t text (udp_sum t text)
