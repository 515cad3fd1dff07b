-- The retransmission timeout of a connection, and the round trips that it comes from (RFC 6298). Times are in microseconds.
use Rattle.std.specs.Prelude.{ℕ, ◌+◌, ◌-◌, ◌*◌, ◌/◌, ◌^◌, ◌==◌, nat_lt, min, max, ◌&&◌, ◌||◌, not, Bool, true, false, is_some, Option, None, Some, if◌then◌else◌}
use Rattle.std.specs.Option.{option_map_or}
use Rattle.sq_base.specs.SerialOrder.{dist}
use Rattle.tcb_machine.specs.Beside.{retiming}
use Rattle.tcb_machine.specs.BlockState.{Block, snd_nxt}
use Rattle.tcb_machine.specs.Challenges.{is_syn_received}
use Rattle.tcb_machine.specs.Limits.{first_timeout, longest_timeout, second}
use Rattle.tcb_machine.specs.States.{is_listen}
use Rattle.live_server.specs.declared.timing.Mark.{Mark}
use Rattle.live_server.specs.declared.timing.Sample.{Sample}
use Rattle.live_server.specs.declared.timing.Timing.{Timing}
use Rattle.live_server.specs.declared.timing.Trip.{Trip}

-- G: the time comes to each connection once in 20 ms
abbrev pub granularity : ℕ
granularity = 20000

-- RTO is a second at least (2.4), and three at first where the SYN,ACK was sent again (5.7)
abbrev pub least_timeout : ℕ
least_timeout = second

abbrev pub slow_timeout : ℕ
slow_timeout = 3 * second

-- nothing was measured, sent or sent again
abbrev pub no_timing : Timing
no_timing = record { trip = None; slow = false; timeouts = 0; sample = None }

-- SRTT and RTTVAR by the first round trip (2.2), and by each later one (2.3): alpha is 1/8, and beta 1/4
abbrev pub measured : ℕ → Option Trip → Trip
measured r None = record { srtt = r; rttvar = r / 2 }
measured r (Some p) = record { srtt = p.srtt - p.srtt / 8 + r / 8; rttvar = p.rttvar - p.rttvar / 4 + max (p.srtt - r) (r - p.srtt) / 4 }

-- RTO by them: SRTT + max (G, K * RTTVAR), where K is 4 (2.2 and 2.3), in its limits (2.4 and 2.5). Before the first it is a second (2.1), or three
abbrev pub computed : Bool → Option Trip → ℕ
computed slow None = if slow then slow_timeout else first_timeout
computed slow (Some p) = min longest_timeout (max least_timeout (p.srtt + max granularity (4 * p.rttvar)))

-- RTO: twice as long for each time that the timer expired since then (5.5), up to 60 s
unfoldable pub timeout : Timing → ℕ
timeout t = min longest_timeout (2 ^ t.timeouts * computed t.slow t.trip)

-- ---- a round trip is measured
-- from when a segment was sent until it is acknowledged
abbrev pub measures : ℕ → Timing → Timing
measures r t = record t { trip = Some (measured r t.trip); timeouts = 0; sample = None }

-- all up to an edge is acknowledged
abbrev pub is_reached : Block → Sample → Bool
is_reached d s = nat_lt (dist s.edge d.una) (2 ^ 31)

unfoldable pub ended : ℕ → Block → Timing → Timing
ended now d t = option_map_or (λ s. if is_reached d s then measures (now - s.at) t else t) t.sample t

-- what is sent again is in no round trip (3, Karn's algorithm)
abbrev pub unsampled : Timing → Timing
unsampled t = record t { sample = None }

-- what a block was before a step
abbrev pub mark_of : Block → Mark
mark_of b = record { una = b.una; nxt = snd_nxt b; state = b.state; running = is_some b.retransmit_at }

-- what is sent the first time is measured, where nothing is: one round trip at a time (3)
abbrev pub is_sending : Mark → Block → Bool
is_sending m d = is_listen m.state || not (snd_nxt d == m.nxt)

unfoldable pub sampled : ℕ → Mark → Block → Timing → Timing
sampled now m d t = if is_some t.sample || not (is_sending m d) then t else record t { sample = Some (record { edge = snd_nxt d; at = now }) }

-- ---- steps
-- the handshake ends, in which the timer expired: RTO is three seconds then (5.7)
unfoldable pub opened : Mark → Block → Timing → Timing
opened m d t = if is_syn_received m.state && (not (is_syn_received d.state) && nat_lt 0 t.timeouts) then record t { slow = true; timeouts = 0 } else t

-- a segment came, and the block is another one; maybe something is sent again at once
unfoldable pub clocked : ℕ → Bool → Mark → Block → Timing → Timing
clocked now again m d t =
    if is_listen d.state then t
    else if again then unsampled (opened m d (ended now d t))
    else sampled now m d (opened m d (ended now d t))

-- The time came, and the timer expired (5.4 to 5.6), or didn't. Where it probes a window of 0, RTO stays (RFC 9293, 3.8.6.1)
unfoldable pub expired : ℕ → Bool → Block → Timing → Timing
expired before probes d t =
    if not (nat_lt before d.retransmissions) then t
    else if probes then unsampled t
    else record (unsampled t) { timeouts = min (2 ^ 32 - 1) (t.timeouts + (d.retransmissions - before)) }

-- ---- the timer
-- a step started it: it runs, and didn't before, or something new was acknowledged (5.1 and 5.3)
unfoldable pub is_started : Mark → Block → Bool
is_started m d = not (is_listen d.state) && (is_some d.retransmit_at && (not m.running || not (d.una == m.una)))

-- then it expires by this RTO. Elsewhere the block doubles it itself
unfoldable pub retimed : ℕ → Mark → Block → Block
retimed rto m d = if is_started m d then retiming rto d else d
