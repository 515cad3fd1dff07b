-- What a table has to know of a connection: each question about who is over or is to leave is one about its facts.
use Rattle.std.specs.Prelude.{ℕ, ◌-◌, ◌/◌, ◌==◌, nat_le, nat_lt, ◌&&◌, ◌||◌, not, Bool, if◌then◌else◌}
use Rattle.sq_base.specs.SerialOrder.{dist}
use Rattle.tcb_machine.specs.BlockState.{held_in}
use Rattle.tcb_machine.specs.Challenges.{is_syn_received}
use Rattle.tcb_machine.specs.States.{is_listen}
use Rattle.tcb_machine.specs.TcpStep.{is_time_wait}
use Rattle.live_server.specs.Congestion.{flight}
use Rattle.live_server.specs.Leaving.{is_fin_wait_2}
use Rattle.live_server.specs.Limits.{half_closed_limit, handshake_limit}
use Rattle.live_server.specs.declared.conn.Conn.{Conn}
use Rattle.live_server.specs.declared.facts.Facts.{Facts}
use Rattle.live_server.specs.declared.setting.Setting.{Setting}
use Rattle.live_server.specs.declared.unreached.Reported.{Reported}
use Rattle.live_server.specs.declared.unreached.Reported.TheVariants.{HalfOpen, Open, Stray}

abbrev pub facts_of : Conn → Facts
facts_of c = record {
  state = c.tcb.state;
  number = c.number;
  since = c.since;
  heard = c.heard;
  held = held_in c.tcb;
  una = c.tcb.una;
  flight = flight c.tcb;
}

-- the same questions as of a connection
abbrev pub is_over_by : Facts → Bool
is_over_by f = is_listen f.state

abbrev pub is_half_open_by : Facts → Bool
is_half_open_by f = is_syn_received f.state

abbrev pub is_waiting_by : ℕ → Facts → Bool
is_waiting_by number f = is_half_open_by f && (f.number == number)

abbrev pub reported_by : ℕ → Facts → Reported
reported_by seq f = if not (nat_lt (dist f.una seq) f.flight) then Stray else if is_half_open_by f then HalfOpen else Open

abbrev pub is_in_time_wait_by : Facts → Bool
is_in_time_wait_by f = is_time_wait f.state

abbrev pub is_idle_by : ℕ → ℕ → Facts → Bool
is_idle_by now limit f = nat_le limit (now - f.heard)

abbrev pub is_given_up_by : ℕ → Facts → Bool
is_given_up_by now f = (is_half_open_by f && nat_le handshake_limit (now - f.since)) || (is_fin_wait_2 f.state && is_idle_by now half_closed_limit f)

abbrev pub is_leaving_by : Setting → ℕ → ℕ → Facts → Bool
is_leaving_by g now taken f =
    is_given_up_by now f || ((nat_le (g.places - g.places / 4) taken && is_in_time_wait_by f) || (nat_le g.places taken && is_idle_by now g.idle f))
