-- What a router's message that a segment didn't arrive is to a connection (RFC 9293, 3.9.2.2; RFC 5461, 4.1).
use Rattle.std.specs.Prelude.{ℕ, nat_lt, not, Bool, if◌then◌else◌}
use Rattle.sq_base.specs.SerialOrder.{dist}
use Rattle.live_server.specs.Acts.{is_half_open}
use Rattle.live_server.specs.Congestion.{flight}
use Rattle.live_server.specs.declared.conn.Conn.{Conn}
use Rattle.live_server.specs.declared.unreached.Reported.{Reported}
use Rattle.live_server.specs.declared.unreached.Reported.TheVariants.{HalfOpen, Open, Stray}

-- a sequence number was sent, and isn't acknowledged (RFC 5927, 4)
abbrev pub is_under_way : ℕ → Conn → Bool
is_under_way seq c = nat_lt (dist c.tcb.una seq) (flight c.tcb)

-- it is nothing to a connection that has no segment with this number under way
abbrev pub reported : ℕ → Conn → Reported
reported seq c = if not (is_under_way seq c) then Stray else if is_half_open c then HalfOpen else Open
