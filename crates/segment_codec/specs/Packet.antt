-- What a record's bytes hold: link (IEEE 802.3 and 802.1Q, raw IP, Linux cooked), IPv4 (RFC 791, 3.1), TCP (RFC 9293, 3.1).
-- In each part the first answer whose condition holds counts.
use Rattle.std.specs.Prelude.{ℕ, ◌+◌, ◌-◌, ◌*◌, ◌%◌, ◌==◌, nat_lt, nat_le, ◌&&◌, ◌||◌, not, Bool, if◌then◌else◌, bit_and}
use Rattle.std.specs.Prelude.{List, length, drop, take, Result, Ok, Err}
use Rattle.sq_base.specs.InternetSum.{word_sum, reduced}
use Rattle.sq_base.specs.declared.kinds.Link.{Link}
use Rattle.sq_base.specs.declared.kinds.Link.TheVariants.{Ethernet, RawIp, Cooked}
use Rattle.segment_codec.specs.Places.{byte, word, long, high, low}
use Rattle.segment_codec.specs.Options.{options_read}
use Rattle.segment_codec.specs.declared.packet.Packet.{Packet}
use Rattle.segment_codec.specs.declared.packet.Packet.TheVariants as packet
use Rattle.segment_codec.specs.declared.packet.Why.TheVariants as why
use Rattle.segment_codec.specs.declared.packet.Seg.{Seg}

-- the segment in a datagram whose TCP part is given; the part stands at this place of the record's body
unfoldable pub segment_of : List ℕ → List ℕ → ℕ → Seg
segment_of ip tcp from =
    let header = 4 * high (byte tcp 12) in
    record {
      src = record { 0 = long ip 12 };
      src_port = word tcp 0;
      dst = record { 0 = long ip 16 };
      dst_port = word tcp 2;
      seq = long tcp 4;
      ack = long tcp 8;
      flags = byte tcp 13 % 64;
      wnd = word tcp 14;
      options = options_read (drop 20 (take header tcp));
      text_from = from + header;
      text_len = length tcp - header;
    }

-- the sum of the IPv4 header is right, and so is that of the TCP part with its pseudo-header: addresses, protocol 6,
-- length of the part, which is to fit 16 bits
unfoldable pub sums_hold : List ℕ → List ℕ → List ℕ → Bool
sums_hold ip header tcp =
    (reduced (word_sum header) == 0xffff)
    && (nat_lt (length tcp) 65536
    && (reduced (word_sum (drop 12 (take 20 ip)) + 6 + length tcp + word_sum tcp) == 0xffff))

-- the TCP part, at this place of the record's body
unfoldable pub tcp_packet : Bool → List ℕ → List ℕ → List ℕ → ℕ → Packet
tcp_packet verify ip header tcp from =
    if nat_lt (length tcp) 20 then packet.Malformed why.TcpLength
    else if nat_lt (high (byte tcp 12)) 5 || nat_lt (length tcp) (4 * high (byte tcp 12)) then packet.Malformed why.DataOffset
    else if verify && not (sums_hold ip header tcp) then packet.BadSum
    else packet.Segment (segment_of ip tcp from)

-- the datagram's total length: 0 stands for as many bytes as were captured
abbrev pub total_of : List ℕ → ℕ
total_of ip = if word ip 2 == 0 then length ip else word ip 2

-- the datagram, at this place of the record's body; the bytes past its total length are padding
unfoldable pub datagram : Bool → List ℕ → ℕ → Packet
datagram verify ip from =
    let ihl = 4 * low (byte ip 0) in
    if length ip == 0 then packet.Cut
    else if not (high (byte ip 0) == 4) then packet.Malformed why.Version
    else if nat_lt ihl 20 then packet.Malformed why.HeaderLength
    else if nat_lt (length ip) 20 then packet.Cut
    else if not (word ip 2 == 0) && nat_lt (word ip 2) ihl then packet.Malformed why.TotalLength
    -- the more-fragments bit, or a fragment's offset
    else if not (bit_and (word ip 6) 0x3fff == 0) then packet.Fragment
    else if not (byte ip 9 == 6) then packet.Other
    else if nat_lt (length ip) (total_of ip) || nat_lt (length ip) ihl then packet.Cut
    else tcp_packet verify ip (take ihl ip) (drop ihl (take (total_of ip) ip)) (from + ihl)

-- the place behind a link header of so many bytes, whose last two name what follows, if that is IPv4
unfoldable pub behind_header : ℕ → List ℕ → Result ℕ Packet
behind_header size body =
    if nat_lt (length body) size then Err packet.Cut
    else if word body (size - 2) == 0x0800 then Ok size
    else Err packet.Other

-- the place at which the IPv4 datagram begins in a record's body, under its link, or the answer where none begins; a header of Ethernet may have one tag
unfoldable pub ip_place : Link → List ℕ → Result ℕ Packet
ip_place Ethernet body = behind_header (if nat_le 14 (length body) && (word body 12 == 0x8100) then 18 else 14) body
ip_place Cooked body = behind_header 16 body
ip_place RawIp body = if nat_lt 0 (length body) && (high (byte body 0) == 6) then Err packet.Other else Ok 0

-- the datagram at its place in the body, or the answer where none begins
abbrev pub packet_at : Bool → List ℕ → Result ℕ Packet → Packet
packet_at verify body (Ok at) = datagram verify (drop at body) at
packet_at verify body (Err answer) = answer

-- the record's body, under its link
unfoldable pub packet_in : Link → List ℕ → Bool → Packet
packet_in link body verify = packet_at verify body (ip_place link body)
