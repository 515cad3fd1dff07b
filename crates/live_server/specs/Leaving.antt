-- Who leaves at a tick, though nobody ended it.
use Rattle.std.specs.Prelude.{ℕ, ◌-◌, ◌*◌, ◌/◌, ◌==◌, nat_le, nat_lt, max, ◌&&◌, ◌||◌, not, Bool, true, false, [], ◌∷◌, length, filter, position}
use Rattle.std.specs.Prelude.{Option, None, option_and_then, option_map, slice_get, if◌then◌else◌}
use Rattle.std.specs.List.{count_by, list_all}
use Rattle.std.specs.Option.{option_map_or}
use Rattle.sq_base.specs.declared.kinds.Addr.{Addr}
use Rattle.sq_base.specs.declared.kinds.Tuple.{Tuple}
use Rattle.tcb_machine.specs.TcpStep.{is_time_wait}
use Rattle.tcb_machine.specs.declared.kinds.State.{State}
use Rattle.tcb_machine.specs.declared.kinds.State.TheVariants.{Listen, SynReceived, Established, FinWait1, FinWait2, CloseWait, Closing, LastAck, TimeWait}
use Rattle.live_server.specs.Acts.{is_half_open, is_idle}
use Rattle.live_server.specs.Limits.{half_closed_limit, handshake_limit}
use Rattle.live_server.specs.Table.{Conns, without}
use Rattle.live_server.specs.declared.conn.Conn.{Conn}
use Rattle.live_server.specs.declared.crowding.Peer.{Peer}
use Rattle.live_server.specs.declared.crowding.TurnedAway.{TurnedAway}
use Rattle.live_server.specs.declared.crowding.TurnedAway.TheVariants.{Nobody, One, Several}
use Rattle.live_server.specs.declared.setting.Setting.{Setting}

abbrev pub is_fin_wait_2 : State → Bool
is_fin_wait_2 Listen = false
is_fin_wait_2 SynReceived = false
is_fin_wait_2 Established = false
is_fin_wait_2 FinWait1 = false
is_fin_wait_2 FinWait2 = true
is_fin_wait_2 CloseWait = false
is_fin_wait_2 Closing = false
is_fin_wait_2 LastAck = false
is_fin_wait_2 TimeWait = false

-- half open too long, or silent too long while its peer should close
abbrev pub is_given_up : ℕ → Conn → Bool
is_given_up now c = (is_half_open c && nat_le handshake_limit (now - c.since)) || (is_fin_wait_2 c.tcb.state && is_idle now half_closed_limit c)

-- in TIME-WAIT where three quarters of the places are taken, or idle where all are
abbrev pub is_crowded_out : Setting → ℕ → ℕ → Conn → Bool
is_crowded_out g now taken c =
    (nat_le (g.places - g.places / 4) taken && is_time_wait c.tcb.state) || (nat_le g.places taken && is_idle now g.idle c)

abbrev pub is_leaving : Setting → ℕ → ℕ → Conn → Bool
is_leaving g now taken c = is_given_up now c || is_crowded_out g now taken c

-- all leave of which that is so
unfoldable pub without_leaving : Setting → ℕ → Conns → Conns
without_leaving g now cs = filter (λ c. not (is_leaving g now (length cs) c.1)) cs

-- ---- who leaves for others
-- who was turned away, with one address more
abbrev pub and_turned : Addr → TurnedAway → TurnedAway
and_turned a Nobody = One a
and_turned a (One other) = if other.0 == a.0 then One other else Several
and_turned a Several = Several

-- somebody of another address was
abbrev pub keeps_out : TurnedAway → ℕ → Bool
keeps_out Nobody address = false
keeps_out (One other) address = not (other.0 == address)
keeps_out Several address = true

-- whose a connection is, and when something came from it last
abbrev pub peer_of : Tuple × Conn → Peer
peer_of c = record { address = c.0.client; heard = c.1.heard }

-- so many connections an address has
abbrev pub share : ℕ → Conns → ℕ
share address cs = count_by (λ c. c.0.client.0 == address) cs

-- or none, where nobody else was turned away
abbrev pub blamed : TurnedAway → Conns → ℕ → ℕ
blamed w cs address = if keeps_out w address then share address cs else 0

-- the most of any address
abbrev pub most_blamed : TurnedAway → Conns → Conns → ℕ
most_blamed w all [] = 0
most_blamed w all (c ∷ cs) = max (blamed w all c.0.client.0) (most_blamed w all cs)

-- its address has the most of all that keep others out, and more than a quarter
abbrev pub is_crowding : TurnedAway → Conns → Tuple × Conn → Bool
is_crowding w cs c =
    nat_lt (length cs) (4 * blamed w cs c.0.client.0) && nat_le (most_blamed w cs cs) (blamed w cs c.0.client.0)

-- of those the one that was silent the longest, and the first one of such
abbrev pub shed_place : TurnedAway → Conns → Option ℕ
shed_place w cs =
    position (λ c. is_crowding w cs c && list_all (λ d. not (is_crowding w cs d) || nat_le c.1.heard d.1.heard) cs) cs

-- that one leaves a full table
unfoldable pub without_shed : Setting → TurnedAway → Conns → Conns
without_shed g w cs = if nat_le g.places (length cs) then option_map_or (λ place. without place cs) (shed_place w cs) cs else cs

-- the ends of that one, where one does
abbrev pub shed_ends : Setting → TurnedAway → Conns → Option Tuple
shed_ends g w cs =
    if nat_le g.places (length cs) then option_and_then (λ place. option_map (λ c. c.0) (slice_get cs place)) (shed_place w cs) else None
