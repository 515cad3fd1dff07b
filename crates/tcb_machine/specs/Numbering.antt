-- How SND.UNA and the count of acknowledged bytes go together (RFC 9293, 3.4): our SYN takes the number ISS, each byte of our text the
-- next one, and our FIN the one behind all text.
use Rattle.std.specs.Prelude.{ℕ, ◌+◌, ◌%◌, ◌^◌, ◌≡◌, ◌<◌, ◌≤◌, Bool, true, false, List, length}
use Rattle.segment_codec.specs.declared.packet.Seg.{Seg}
use Rattle.tcb_machine.specs.BlockState.{Block, one_if}
use Rattle.tcb_machine.specs.CallAnswers.{tcp_call}
use Rattle.tcb_machine.specs.Output.{output}
use Rattle.tcb_machine.specs.TcpStep.{is_fin_acked, tcp_segment}
use Rattle.tcb_machine.specs.Timers.{tcp_time, retransmits}
use Rattle.tcb_machine.specs.Validity.{IsValid, left_by}
use Rattle.tcb_machine.specs.declared.kinds.Call.{Call}
use Rattle.tcb_machine.specs.declared.kinds.State.{State}
use Rattle.tcb_machine.specs.declared.kinds.State.TheVariants.{Listen, SynReceived, Established, FinWait1, FinWait2, CloseWait, Closing, LastAck, TimeWait}
use Rattle.byte_queues.specs.Limits.{send_space}

-- the states behind the handshake
abbrev pub is_synchronized : State → Bool
is_synchronized Listen = false
is_synchronized SynReceived = false
is_synchronized Established = true
is_synchronized FinWait1 = true
is_synchronized FinWait2 = true
is_synchronized CloseWait = true
is_synchronized Closing = true
is_synchronized LastAck = true
is_synchronized TimeWait = true

abbrev pub is_syn_received : State → Bool
is_syn_received SynReceived = true
is_syn_received _ = false

-- nothing was acknowledged, sent or offered yet
pub record IsUntouched (una iss acked sent : ℕ) (out : List ℕ) (fin_wanted fin_sent : Bool) : Type 0 where
  pub at_first : una ≡ iss
  pub none_acked : acked ≡ 0
  pub none_sent : sent ≡ 0
  pub none_offered : length out ≡ 0
  pub not_wanted : fin_wanted ≡ false
  pub not_finished : fin_sent ≡ false

pub record IsNumbered (b : Block) : Type 0 where
  -- behind the handshake: the SYN, the bytes that were acknowledged, and our FIN where it was
  pub una : is_synchronized b.state ≡ true → b.una ≡ (b.iss + 1 + b.acked + one_if (is_fin_acked b)) % 2 ^ 32
  pub before : is_syn_received b.state ≡ true → IsUntouched b.una b.iss b.acked b.sent b.out b.fin_wanted b.fin_sent
  pub iss : b.iss < 2 ^ 32
  -- our FIN stands behind all text, and none is offered behind it
  pub wanted : b.fin_sent ≡ true → b.fin_wanted ≡ true
  pub last : b.fin_sent ≡ true → b.sent ≡ b.acked + length b.out
  pub held : length b.out ≤ send_space

-- laws: every step of a valid block keeps this; the numbers that come in are of 32 bits

abbrev pub SegmentKeepsNumbers : Type 0
SegmentKeepsNumbers =
    (now iss : ℕ) (s : Seg) (text : List ℕ) (b : Block) → iss < 2 ^ 32 → s.ack < 2 ^ 32 → IsValid b → IsNumbered b
    → IsNumbered (left_by (tcp_segment now iss s text b))

abbrev pub TimeKeepsNumbers : Type 0
TimeKeepsNumbers = (to : ℕ) (b : Block) → IsValid b → IsNumbered b → IsNumbered (tcp_time to b)

abbrev pub CallKeepsNumbers : Type 0
CallKeepsNumbers = (call : Call) (b : Block) → IsValid b → IsNumbered b → IsNumbered (left_by (tcp_call call b).verdict)

abbrev pub OutputKeepsNumbers : Type 0
OutputKeepsNumbers = (b : Block) → IsValid b → IsNumbered b → IsNumbered (output b)

-- what is sent again outside a deadline
abbrev pub ResendKeepsNumbers : Type 0
ResendKeepsNumbers = (b : Block) → IsValid b → IsNumbered b → IsNumbered (retransmits b.state b)
