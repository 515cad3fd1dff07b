-- The arrival of a segment (RFC 9293, 3.10.7), check by check.
use Rattle.std.specs.Prelude.{ℕ, ◌↔◌, IsTrue, ◌+◌, ◌-◌, ◌%◌, ◌^◌, ◌==◌, nat_lt, nat_le, min, ◌&&◌}
use Rattle.std.specs.Prelude.{◌||◌, Bool, true, false, not, List, length, drop, Option, None, Some, if◌then◌else◌}
use Rattle.sq_base.specs.SerialOrder.{IsBefore, dist}
use Rattle.byte_queues.specs.ReceiveQueue.{Recv, empty_recv, next_of, is_ended, placed, with_end}
use Rattle.tcb_machine.specs.BlockState.{Block, to_listen, rcv_nxt, rcv_wnd, snd_nxt}
use Rattle.segment_codec.specs.ControlBits.{ack, fin, rst, syn}
use Rattle.tcb_machine.specs.BlockState.{has, seg_len, seg_wnd, syn_ack_of, rst_of, sends, sends_ack, in_flight}
use Rattle.tcb_machine.specs.declared.kinds.State.{State}
use Rattle.tcb_machine.specs.declared.kinds.State.TheVariants.{Listen, SynReceived, Established, FinWait1, FinWait2, CloseWait, Closing, LastAck, TimeWait}
use Rattle.segment_codec.specs.declared.packet.Seg.{Seg}
use Rattle.tcb_machine.specs.declared.kinds.Next.{Next}
use Rattle.tcb_machine.specs.declared.kinds.Next.TheVariants.{Over, Go}
use Rattle.tcb_machine.specs.declared.kinds.Step.{Step}
use Rattle.tcb_machine.specs.declared.kinds.Step.TheVariants as step
use Rattle.tcb_machine.specs.declared.kinds.AckKind.{AckKind}
use Rattle.tcb_machine.specs.declared.kinds.AckKind.TheVariants.{Fresh, Equal, Old, Beyond}
use Rattle.tcb_machine.specs.Agreed.{space_of, taken_from}
use Rattle.tcb_machine.specs.Limits.{first_timeout, time_wait_length}

-- what a check says: the arrival is over, or pump and output follow, or the next check does
pub data Verdict : Type 0 where
  over : Block → Verdict
  go : Block → Verdict
  on : Block → Verdict

abbrev pub and_then : Verdict → (Block → Verdict) → Verdict
and_then (over b) f = over b
and_then (go b) f = go b
and_then (on b) f = f b

-- LISTEN (3.10.7.2)

unfoldable pub opened : Seg → ℕ → Block → Block
opened s iss b = record b {
  agreed = taken_from s.options;
  recv = empty_recv (space_of (taken_from s.options) b.want);
  state = SynReceived;
  irs = s.seq;
  iss = iss;
  una = iss;
  rto = first_timeout;
  retransmit_at = Some (b.clock + first_timeout);
}

abbrev pub sends_syn_ack : Block → Block
sends_syn_ack b = sends (syn_ack_of b) b

unfoldable pub listen : Seg → ℕ → Block → Verdict
listen s iss b =
    if has s.flags rst then over b
    else if has s.flags ack then over (sends (rst_of s b) b)
    else if has s.flags syn then over (sends_syn_ack (opened s iss b))
    else over b

-- The other states (3.10.7.4). First, the sequence number: the table of 3.4

unfoldable pub is_in_window : ℕ → Block → Bool
is_in_window n b = nat_lt (dist (rcv_nxt b) n) (rcv_wnd b)

abbrev pub acceptable : Bool → Bool → ℕ → ℕ → Block → Bool
acceptable true true seq len b = seq == rcv_nxt b
acceptable true false seq len b = is_in_window seq b
acceptable false true seq len b = false
acceptable false false seq len b = is_in_window seq b || is_in_window ((seq + (len - 1)) % 2 ^ 32) b

unfoldable pub is_acceptable : Seg → List ℕ → Block → Bool
is_acceptable s text b = acceptable (seg_len s text == 0) (rcv_wnd b == 0) s.seq (seg_len s text) b

abbrev pub is_time_wait : State → Bool
is_time_wait Listen = false
is_time_wait SynReceived = false
is_time_wait Established = false
is_time_wait FinWait1 = false
is_time_wait FinWait2 = false
is_time_wait CloseWait = false
is_time_wait Closing = false
is_time_wait LastAck = false
is_time_wait TimeWait = true

-- 2 MSL from now
abbrev pub waits : Block → Block
waits b = record b { time_wait_at = Some (b.clock + time_wait_length) }

-- what a segment that isn't acceptable does
unfoldable pub refused : Seg → Block → Verdict
refused s b =
    if has s.flags rst then over b
    else if is_time_wait b.state && has s.flags fin then over (waits (sends_ack b))
    else over (sends_ack b)

unfoldable pub check_sequence : Seg → List ℕ → Block → Verdict
check_sequence s text b = if is_acceptable s text b then on b else refused s b

-- Second, RST (with the challenge of RFC 5961)
unfoldable pub check_reset : Seg → Block → Verdict
check_reset s b =
    if not (has s.flags rst) then on b
    else if s.seq == rcv_nxt b then over (to_listen b)
    else over (sends_ack b)

-- Fourth, SYN
abbrev pub syn_again : State → Block → Verdict
syn_again SynReceived b = over (to_listen b)
syn_again Listen b = over (sends_ack b)
syn_again Established b = over (sends_ack b)
syn_again FinWait1 b = over (sends_ack b)
syn_again FinWait2 b = over (sends_ack b)
syn_again CloseWait b = over (sends_ack b)
syn_again Closing b = over (sends_ack b)
syn_again LastAck b = over (sends_ack b)
syn_again TimeWait b = over (sends_ack b)

unfoldable pub check_syn : Seg → Block → Verdict
check_syn s b = if has s.flags syn then syn_again b.state b else on b

-- Fifth, ACK: SND.UNA < SEG.ACK =< SND.NXT, or SEG.ACK = SND.UNA, or before it, or beyond SND.NXT
unfoldable pub ack_kind : ℕ → Block → AckKind
ack_kind n b =
    let d = dist b.una n in
    if d == 0 then Equal
    else if nat_le d (dist b.una (snd_nxt b)) then Fresh
    else if nat_le (2 ^ 31) d then Old
    else Beyond

-- the order of `sq_base`, as a test
abbrev pub is_before : ℕ → ℕ → Bool
is_before a b = nat_lt 0 (dist a b) && nat_lt (dist a b) (2 ^ 31)

abbrev pub OneSerialOrder : Type 0
OneSerialOrder = (a b : ℕ) → IsTrue (is_before a b) ↔ IsBefore a b

abbrev pub with_window : Seg → Block → Block
with_window s b = record b { wnd = seg_wnd s b; wl1 = s.seq; wl2 = s.ack }

unfoldable pub takes_window : Seg → Block → Block
takes_window s b =
    if is_before b.wl1 s.seq || ((b.wl1 == s.seq) && not (is_before s.ack b.wl2)) then with_window s b else b

-- the acknowledged bytes leave; SYN and FIN take a number and aren't among them
unfoldable pub takes_ack : Seg → Block → Block
takes_ack s b =
    let n = min (in_flight b) (dist b.una s.ack) in
    record b { una = s.ack; acked = b.acked + n; out = drop n b.out; rto = first_timeout; retransmit_at = None }

unfoldable pub is_fin_acked : Block → Bool
is_fin_acked b = b.fin_sent && (b.una == snd_nxt b)

unfoldable pub in_time_wait : Block → Block
in_time_wait b = record b { state = TimeWait; time_wait_at = Some (b.clock + time_wait_length); retransmit_at = None }

-- what the state becomes; the flag says whether our FIN is acknowledged
abbrev pub after_ack : State → Bool → Block → Verdict
after_ack Established acked b = on b
after_ack FinWait1 true b = on (record b { state = FinWait2 })
after_ack FinWait1 false b = on b
after_ack FinWait2 acked b = on b
after_ack CloseWait acked b = go b
after_ack Closing true b = go (in_time_wait b)
after_ack Closing false b = go b
after_ack LastAck true b = over (to_listen b)
after_ack LastAck false b = go b
after_ack Listen acked b = over b
after_ack SynReceived acked b = over b
after_ack TimeWait acked b = over b

abbrev pub after : Block → Verdict
after b = after_ack b.state (is_fin_acked b) b

unfoldable pub acknowledged : AckKind → Seg → Block → Verdict
acknowledged Fresh s b = after (takes_window s (takes_ack s b))
acknowledged Equal s b = after (takes_window s b)
acknowledged Old s b = after b
acknowledged Beyond s b = over (sends_ack b)

abbrev pub established : AckKind → Seg → Block → Verdict
established Fresh s b = acknowledged Fresh s (record (with_window s b) { state = Established })
established Equal s b = over (sends (rst_of s b) b)
established Old s b = over (sends (rst_of s b) b)
established Beyond s b = over (sends (rst_of s b) b)

abbrev pub ack_in : State → AckKind → Seg → Block → Verdict
ack_in Listen kind s b = over b
ack_in SynReceived kind s b = established kind s b
ack_in Established kind s b = acknowledged kind s b
ack_in FinWait1 kind s b = acknowledged kind s b
ack_in FinWait2 kind s b = acknowledged kind s b
ack_in CloseWait kind s b = acknowledged kind s b
ack_in Closing kind s b = acknowledged kind s b
ack_in LastAck kind s b = acknowledged kind s b
ack_in TimeWait kind s b = over b

unfoldable pub check_ack : Seg → Block → Verdict
check_ack s b = if has s.flags ack then ack_in b.state (ack_kind s.ack b) s b else over b

-- Seventh, the text: how far it begins before RCV.NXT, and how far behind it
unfoldable pub repeated : Seg → Block → ℕ
repeated s b = if is_before s.seq (rcv_nxt b) then dist s.seq (rcv_nxt b) else 0

unfoldable pub ahead : Seg → Block → ℕ
ahead s b = if is_before s.seq (rcv_nxt b) then 0 else dist (rcv_nxt b) s.seq

-- Eighth, FIN
abbrev pub consumes : State → Block → Block
consumes Listen b = b
consumes SynReceived b = b
consumes Established b = record b { state = CloseWait }
consumes FinWait1 b = record b { state = Closing }
consumes FinWait2 b = in_time_wait b
consumes CloseWait b = b
consumes Closing b = b
consumes LastAck b = b
consumes TimeWait b = b

unfoldable pub closes : Block → Verdict
closes b = if is_ended b.recv then go (consumes b.state (record b { ack_due = true })) else go b

abbrev pub is_none : Option ℕ → Bool
is_none None = true
is_none (Some f) = false

-- the FIN's position is kept where it is in the window, not before bytes that are held in order, and the first
abbrev pub is_end_kept : ℕ → Recv → Bool
is_end_kept f q = is_none q.stream_end && (nat_lt f q.edge && nat_le (next_of q) f)

unfoldable pub keeps_end : ℕ → Recv → Recv
keeps_end f q = if is_end_kept f q then with_end f q else q

unfoldable pub takes_fin : Seg → ℕ → Block → Block
takes_fin s f b = if has s.flags fin then record b { recv = keeps_end f b.recv; ack_due = true } else b

-- where too many runs would stand, neither text nor FIN is kept
abbrev pub takes_text : Option Recv → Seg → ℕ → Block → Block
takes_text None s f b = record b { ack_due = true }
takes_text (Some q) s f b = takes_fin s f (record b { recv = q; ack_due = true })

unfoldable pub check_text : Seg → List ℕ → Block → Verdict
check_text s text b =
    let at = next_of b.recv + ahead s b in
    let f = at + length text - repeated s b in
    if length text == 0 then closes (takes_fin s f b)
    else closes (takes_text (placed at (drop (repeated s b) text) b.recv) s f b)

-- the checks before the text
unfoldable pub first_checks : Seg → List ℕ → Block → Verdict
first_checks s text b = and_then (and_then (and_then (check_sequence s text b) (check_reset s)) (check_syn s)) (check_ack s)

unfoldable pub arrives : Seg → List ℕ → Block → Verdict
arrives s text b = and_then (first_checks s text b) (check_text s text)

abbrev pub in_state : State → Seg → ℕ → List ℕ → Block → Verdict
in_state Listen s iss text b = listen s iss b
in_state SynReceived s iss text b = arrives s text b
in_state Established s iss text b = arrives s text b
in_state FinWait1 s iss text b = arrives s text b
in_state FinWait2 s iss text b = arrives s text b
in_state CloseWait s iss text b = arrives s text b
in_state Closing s iss text b = arrives s text b
in_state LastAck s iss text b = arrives s text b
in_state TimeWait s iss text b = arrives s text b

-- a segment with its time and hint
unfoldable pub tcp_segment : ℕ → ℕ → Seg → List ℕ → Block → Verdict
tcp_segment now iss s text b = in_state b.state s iss text (record b { clock = now })

-- an answer of the code with the block that it leaves
abbrev pub said : Next → Block → Verdict
said Over b = over b
said Go b = go b

abbrev pub step_said : Step → Block → Verdict
step_said step.Over b = over b
step_said step.Go b = go b
step_said step.On b = on b
