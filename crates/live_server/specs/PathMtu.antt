-- A path that takes no datagram as long as one that was sent, as a router says (RFC 1191).
use Rattle.std.specs.Prelude.{ℕ, ◌-◌, max, nat_lt, ◌&&◌, Bool, true, if◌then◌else◌}
use Rattle.sq_base.specs.SerialOrder.{dist}
use Rattle.sq_base.specs.declared.kinds.Tuple.{Tuple}
use Rattle.tcb_machine.specs.Limits.{default_mss}
use Rattle.tcb_machine.specs.Shortening.{shortening}
use Rattle.live_server.specs.Acts.{Meeting, resent, sent_by}
use Rattle.live_server.specs.Congestion.{flight, is_open, restarted}
use Rattle.live_server.specs.Limits.{header_bytes}
use Rattle.live_server.specs.Timing.{unsampled}
use Rattle.live_server.specs.declared.conn.Conn.{Conn}
use Rattle.live_server.specs.declared.conn.Judged.TheVariants.{Taken}
use Rattle.live_server.specs.declared.conn.Met.TheVariants.{Gone, Judged as judges}

-- the most text of a segment in a datagram of so many bytes. It is never less than 536, which every path takes (RFC 9293, 3.7.1): so it is too where
-- a router doesn't say how long a datagram may be (RFC 1191, 5)
abbrev pub text_in_mtu : ℕ → ℕ
text_in_mtu mtu = max default_mss (mtu - header_bytes)

-- a connection heeds what is said of a sequence number that is under way, where its segments are longer than so many bytes of text
unfoldable pub is_heeded : ℕ → ℕ → Conn → Bool
is_heeded seq most c = is_open c.tcb && (nat_lt (dist c.tcb.una seq) (flight c.tcb) && nat_lt most c.tcb.agreed.mss)

-- From then on its segments are as short. The first one that isn't acknowledged is sent again, and the others as acknowledgements come
unfoldable pub shortened : ℕ → Conn → Conn
shortened most c = record c {
  tcb = resent true (shortening most c.tcb);
  most = most;
  congestion = restarted (shortening most c.tcb) c.congestion;
  timing = unsampled c.timing;
}

-- what becomes of a connection
unfoldable pub path_told : ℕ → ℕ → Conn → Conn
path_told seq most c = if is_heeded seq most c then shortened most c else c

-- and what is sent; where it isn't heeded, it meets nobody
abbrev pub shortens : ℕ → ℕ → Tuple → Conn → Meeting
shortens seq most t c = record {
  conn = path_told seq most c;
  sent = sent_by t (path_told seq most c);
  met = if is_heeded seq most c then judges Taken else Gone;
}
