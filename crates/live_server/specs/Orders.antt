-- The orders of a server's host: datagrams of UDP (RFC 768) to the port of systat (RFC 866). No kernel lets a datagram in from one of its own
-- addresses, and only who has the right to it sends from a port below 1,024: so what comes from such a port of the host is the host's own.
use Rattle.std.specs.Prelude.{ℕ, ◌+◌, ◌-◌, ◌==◌, nat_le, nat_lt, ◌&&◌, Bool, false, List, length, take, drop, Option, None, Some, if◌then◌else◌}
use Rattle.std.specs.Option.{option_and_then, option_map_or}
use Rattle.icmp_codec.specs.EchoRequest.{sum_holds}
use Rattle.segment_codec.specs.Places.{word}
use Rattle.sq_base.specs.InternetSum.{word_sum, reduced}
use Rattle.sq_base.specs.declared.kinds.Addr.{Addr}
use Rattle.sq_base.specs.declared.kinds.Link.TheVariants.{RawIp}
use Rattle.udp_codec.specs.UdpDatagram.{udp_in}
use Rattle.udp_codec.specs.declared.datagram.Udp.{Udp}
use Rattle.live_server.specs.declared.setting.Setting.{Setting}

abbrev pub systat_port : ℕ
systat_port = 11

-- the least port that needs no right
abbrev pub free_port : ℕ
free_port = 1024

-- whether there is a host, and this is its address
abbrev pub is_host : Setting → Addr → Bool
is_host g address = option_map_or (λ h. h.0 == address.0) g.host false

-- from the host, by a port that needs a right, to the server's own address and that port
abbrev pub is_from_host : Setting → Udp → Bool
is_from_host g u = is_host g u.src && (nat_lt u.src_port free_port && ((u.dst.0 == g.address.0) && (u.dst_port == systat_port)))

-- The sum of UDP, which isn't left out: over both addresses, which end a header without options, the UDP part, its length once more and
-- protocol 17, which is taken off here
abbrev pub part_holds : List ℕ → Bool
part_holds ip = nat_le 28 (length ip) && (reduced (word ip 24 + word_sum (take (8 + word ip 24) (drop 12 ip))) == 0xffff - 17)

-- the IPv4 header has no options, and both sums are right
unfoldable pub sums_hold : Udp → List ℕ → Bool
sums_hold u ip = (u.text_from == 28) && (sum_holds (take 20 ip) && part_holds ip)

-- the order that a datagram holds
unfoldable pub order_of : Setting → List ℕ → Udp → Option Udp
order_of g ip u = if is_from_host g u && sums_hold u ip then Some u else None

abbrev pub order_in : Setting → List ℕ → Option Udp
order_in g ip = option_and_then (order_of g ip) (udp_in RawIp ip)
