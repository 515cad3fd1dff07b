-- A time entry: the deadlines that fire, in order of time (RFC 9293, 3.8.1 and 3.10.8; RFC 6298).
use Rattle.std.specs.Prelude.{ℕ, ◌≡◌, ◌<◌, ◌+◌, ◌-◌, ◌*◌, ◌==◌, nat_le, nat_lt, min, max, ◌&&◌}
use Rattle.std.specs.Prelude.{not, List, [], ◌∷◌, take, Option, None, Some, suc, zero, if◌then◌else◌}
use Rattle.std.specs.Option.{ForSome}
use Rattle.tcb_machine.specs.BlockState.{Block, to_listen, segment_of, sends, snd_nxt, snd_end, unsent, in_flight}
use Rattle.segment_codec.specs.ControlBits.{ack, fin, psh}
use Rattle.tcb_machine.specs.TcpStep.{sends_syn_ack}
use Rattle.tcb_machine.specs.Output.{sends_text}
use Rattle.tcb_machine.specs.declared.kinds.State.{State}
use Rattle.tcb_machine.specs.declared.kinds.State.TheVariants.{Listen, SynReceived, Established, FinWait1, FinWait2, CloseWait, Closing, LastAck, TimeWait}
use Rattle.tcb_machine.specs.Limits.{longest_timeout, most_retransmissions}

-- a deadline that fires, with its time
pub data Firing : Type 0 where
  time_wait : ℕ → Firing
  retransmission : ℕ → Firing
  -- all retransmissions were made
  gives_up : ℕ → Firing

-- RTO doubles, up to 60 s (RFC 6298, 5.5)
abbrev pub backed_off : ℕ → ℕ
backed_off rto = min (2 * rto) longest_timeout

-- all firings to come, where nothing arrives: so many retransmissions are left
abbrev pub retransmissions_from : ℕ → ℕ → ℕ → List Firing
retransmissions_from zero rto at = gives_up at ∷ []
retransmissions_from (suc left) rto at = retransmission at ∷ retransmissions_from left (backed_off rto) (at + backed_off rto)

abbrev pub timers : Option ℕ → Option ℕ → Block → List Firing
timers (Some at) retransmit b = time_wait (max b.clock at) ∷ []
timers None None b = []
timers None (Some at) b = retransmissions_from (most_retransmissions - b.retransmissions) b.rto (max b.clock at)

abbrev pub time_of : Firing → ℕ
time_of (time_wait at) = at
time_of (retransmission at) = at
time_of (gives_up at) = at

-- the time of the first one
abbrev pub first_time : List Firing → Option ℕ
first_time [] = None
first_time (f ∷ fs) = Some (time_of f)

-- when the next deadline fires, where nothing arrives: not before the clock
unfoldable pub next_deadline : Block → Option ℕ
next_deadline b = first_time (timers b.time_wait_at b.retransmit_at b)

-- the front of a list up to a time
abbrev pub until : ℕ → List Firing → List Firing
until to [] = []
until to (f ∷ fs) = if nat_le (time_of f) to then f ∷ until to fs else []

unfoldable pub firings : ℕ → Block → List Firing
firings to b = until to (timers b.time_wait_at b.retransmit_at b)

-- the first unacknowledged bytes, else our FIN, else one byte to probe a window of 0 (3.8.6.1)
unfoldable pub sends_again : Block → Block
sends_again b =
    if nat_lt 0 (in_flight b)
    then sends (segment_of (psh + ack) b.una (take (min b.agreed.mss (min (in_flight b) (max 1 b.wnd))) b.out) b) b
    else if b.fin_sent && not (b.una == snd_nxt b)
    then sends (segment_of (fin + ack) (snd_end b) [] b) b
    else sends_text (psh + ack) (take 1 (unsent b)) b

abbrev pub retransmits : State → Block → Block
retransmits Listen b = sends_again b
retransmits SynReceived b = sends_syn_ack b
retransmits Established b = sends_again b
retransmits FinWait1 b = sends_again b
retransmits FinWait2 b = sends_again b
retransmits CloseWait b = sends_again b
retransmits Closing b = sends_again b
retransmits LastAck b = sends_again b
retransmits TimeWait b = sends_again b

unfoldable pub fires : Firing → Block → Block
fires (time_wait at) b = to_listen (record b { clock = at })
fires (gives_up at) b = to_listen (record b { clock = at })
fires (retransmission at) b = record (retransmits b.state (record b { clock = at })) {
  retransmissions = b.retransmissions + 1;
  rto = backed_off b.rto;
  retransmit_at = Some (at + backed_off b.rto);
}

-- the retransmission deadline fires
abbrev pub fired : ℕ → Block → Block
fired at b = if nat_lt b.retransmissions most_retransmissions then fires (retransmission (max b.clock at)) b else fires (gives_up (max b.clock at)) b

abbrev pub fires_all : List Firing → Block → Block
fires_all [] b = b
fires_all (f ∷ fs) b = fires_all fs (fires f b)

unfoldable pub tcp_time : ℕ → Block → Block
tcp_time to b = record (fires_all (firings to b) b) { clock = to }

-- until the next deadline the time sets the clock, and does nothing else
abbrev pub QuietBeforeDeadline : Type 0
QuietBeforeDeadline = (to : ℕ) (b : Block) → ForSome (next_deadline b) (λ at. to < at) → tcp_time to b ≡ record b { clock = to }
