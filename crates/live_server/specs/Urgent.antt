-- Urgent data (RFC 9293, 3.1, 3.8.5 and 3.10.7.4): where a segment says that it ends, and what of it the service hasn't read. The text stays in line.
use Rattle.std.specs.Prelude.{ℕ, ◌+◌, ◌-◌, ◌*◌, ◌%◌, ◌^◌, ◌==◌, nat_le, nat_lt, ◌&&◌, ◌||◌, not, bit_and, Bool, false, Option, None, Some, List, [], length}
use Rattle.std.specs.Prelude.{if◌then◌else◌}
use Rattle.segment_codec.specs.ControlBits.{ack, fin, rst, syn}
use Rattle.segment_codec.specs.Places.{byte, low, word}
use Rattle.segment_codec.specs.declared.packet.Seg.{Seg}
use Rattle.sq_base.specs.SerialOrder.{dist}
use Rattle.sq_base.specs.declared.kinds.Tuple.{Tuple}
use Rattle.tcb_machine.specs.BlockState.{Block, has, one_if, rcv_wnd}
use Rattle.tcb_machine.specs.Challenges.{is_syn_received}
use Rattle.tcb_machine.specs.States.{is_consumed, is_listen}
use Rattle.tcb_machine.specs.TcpStep.{is_in_window}
use Rattle.live_server.specs.Acts.{Meeting, is_outside, is_waited_for, read_nxt, sent_by, takes}
use Rattle.live_server.specs.Congestion.{flight}
use Rattle.live_server.specs.declared.conn.Conn.{Conn}
use Rattle.live_server.specs.declared.conn.Judged.TheVariants.{Taken}
use Rattle.live_server.specs.declared.conn.Met.TheVariants.{Gone, Judged as judges}

abbrev pub urg : ℕ
urg = 32

-- where the TCP header begins in a datagram
abbrev pub tcp_at : List ℕ → ℕ
tcp_at ip = 4 * low (byte ip 0)

-- The urgent pointer: octets 18 and 19 of the TCP header, where the control bit URG is set. Elsewhere the field says nothing (3.1)
unfoldable pub urgent_in : Seg → List ℕ → Option ℕ
urgent_in s ip = if has s.flags urg && nat_le (tcp_at ip + 20) (length ip) then Some (word ip (tcp_at ip + 18)) else None

-- the last number of a segment, or its own where it takes none
abbrev pub last_of : Seg → ℕ
last_of s = (s.seq + (s.text_len - one_if (not (has s.flags fin)))) % 2 ^ 32

-- The first check: some of it is in the window, and where that is closed, it is one that is waited for (3.10.7.4)
unfoldable pub is_near : Seg → Block → Bool
is_near s b = if rcv_wnd b == 0 then is_waited_for s b else is_in_window s.seq b || is_in_window (last_of s) b

-- The fifth: what it acknowledges opens the connection, or was sent, or is a bit older; and it is in a state in which the peer may still send
unfoldable pub is_sending : Seg → Block → Bool
is_sending s b =
    if is_syn_received b.state then nat_lt 0 (dist b.una s.ack) && nat_le (dist b.una s.ack) (flight b)
    else not (is_consumed b.state) && (not (is_listen b.state) && not (is_outside s b))

-- So far a segment has to come for its URG to count: to the sixth check
unfoldable pub is_urging : ℕ → Seg → Block → Bool
is_urging now s b =
    if has s.flags rst || has s.flags syn then false
    else has s.flags ack && (takes now b && (is_sending s b && is_near s b))

-- how far SEG.UP, the number behind the urgent data, is beyond what the service read; 0 where it isn't
abbrev pub ahead_by : ℕ → Seg → Block → ℕ
ahead_by pointer s b = if nat_lt (dist (read_nxt b) ((s.seq + pointer) % 2 ^ 32)) (2 ^ 31) then dist (read_nxt b) ((s.seq + pointer) % 2 ^ 32) else 0

-- SEG.UP is beyond what the service read and beyond RCV.UP: so the first of urgent data, or more of it (3.8.5)
unfoldable pub is_news : ℕ → ℕ → Seg → Conn → Bool
is_news now pointer s c = is_urging now s c.tcb && nat_lt c.urgent (ahead_by pointer s c.tcb)

-- RCV.UP <- max(RCV.UP, SEG.UP)
unfoldable pub urged : ℕ → ℕ → Seg → Conn → Conn
urged now pointer s c = if is_news now pointer s c then record c { urgent = ahead_by pointer s c.tcb } else c

-- what becomes of a connection; where it is no news, it meets nobody
abbrev pub urges : ℕ → ℕ → Seg → Tuple → Conn → Meeting
urges now pointer s t c = record {
  conn = urged now pointer s c;
  sent = sent_by t (urged now pointer s c);
  met = if is_news now pointer s c then judges Taken else Gone;
}

-- A RST counts without its text and its FIN: its number alone says what it does, also where the window is closed (3.10.7.4, first and second)
abbrev pub as_reset : Seg → Seg
as_reset s = record s { flags = if has s.flags rst then bit_and s.flags 62 else s.flags }

unfoldable pub reset_text : Seg → List ℕ → List ℕ
reset_text s text = if has s.flags rst then [] else text
