-- A sent segment in bytes (RFC 791, 3.1; RFC 9293, 3.1).
use Rattle.std.specs.Prelude.{ℕ, ◌+◌, ◌-◌, ◌*◌, ◌/◌, List, ◌∷◌, ◌++◌, length}
use Rattle.sq_base.specs.InternetSum.{word_sum, reduced}
use Rattle.byteorder.specs.Endian.{big_bytes}
use Rattle.sq_base.specs.declared.kinds.Tuple.{Tuple}
use Rattle.segment_codec.specs.Options.{option_bytes}
use Rattle.segment_codec.specs.declared.packet.Reply.{Reply}

-- the header's length in words of four bytes, which is the data offset
abbrev pub offset_of : Reply → ℕ
offset_of r = 5 + length (option_bytes r.options) / 4

-- the IPv4 header with this total length and this checksum: no fragment, TTL 64, protocol 6
abbrev pub ip_with : Tuple → ℕ → ℕ → List ℕ
ip_with t total sum = 0x45 ∷ 0 ∷ (big_bytes 2 total ++ (0 ∷ 0 ∷ 0x40 ∷ 0 ∷ 0x40 ∷ 6 ∷ (big_bytes 2 sum ++ (big_bytes 4 t.server.0 ++ big_bytes 4 t.client.0))))

-- the TCP part with this checksum
abbrev pub tcp_with : Tuple → Reply → ℕ → List ℕ
tcp_with t r sum =
    big_bytes 2 t.server_port ++ (big_bytes 2 t.client_port ++ (big_bytes 4 r.seq ++ (big_bytes 4 r.ack
    ++ (offset_of r * 16 ∷ r.flags ∷ (big_bytes 2 r.wnd ++ (big_bytes 2 sum ++ (0 ∷ 0 ∷ (option_bytes r.options ++ r.text))))))))

-- a checksum is the complement of the sum with its own field 0
unfoldable pub ip_sum : Tuple → ℕ → ℕ
ip_sum t total = 0xffff - reduced (word_sum (ip_with t total 0))

unfoldable pub tcp_sum : Tuple → Reply → ℕ
tcp_sum t r = 0xffff - reduced (word_sum (big_bytes 4 t.server.0) + word_sum (big_bytes 4 t.client.0) + 6 + length (tcp_with t r 0) + word_sum (tcp_with t r 0))

unfoldable pub segment_bytes : Tuple → Reply → List ℕ
segment_bytes t r =
    let total = 20 + length (tcp_with t r 0) in
    ip_with t total (ip_sum t total) ++ tcp_with t r (tcp_sum t r)
