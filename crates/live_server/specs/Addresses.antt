-- Which datagrams are for the server (RFC 9293, 3.9.2.3; RFC 1122, 3.2.1.3).
use Rattle.std.specs.Prelude.{ℕ, ◌/◌, ◌^◌, ◌==◌, nat_le, ◌&&◌, ◌||◌, not, Bool}
use Rattle.segment_codec.specs.declared.packet.Seg.{Seg}
use Rattle.sq_base.specs.declared.kinds.Addr.{Addr}
use Rattle.live_server.specs.declared.setting.Setting.{Setting}

-- the first eight bits of an address
abbrev pub first_byte : ℕ → ℕ
first_byte a = a / 2 ^ 24

-- no host's own: this network (0/8), loopback (127/8), and from 224/4 on multicast, what is reserved, and the limited broadcast
abbrev pub is_no_host : ℕ → Bool
is_no_host a = (first_byte a == 0) || ((first_byte a == 127) || nat_le 224 (first_byte a))

-- between such addresses: from another host's to the server's own
abbrev pub is_to_us : Setting → Addr → Addr → Bool
is_to_us g src dst = (dst.0 == g.address.0) && not (is_no_host src.0 || ((src.0 == g.address.0) || (src.0 == g.broadcast.0)))

abbrev pub is_for_us : Setting → Seg → Bool
is_for_us g s = is_to_us g s.src s.dst
