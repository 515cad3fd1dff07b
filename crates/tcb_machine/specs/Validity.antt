-- What holds of the block of a connection from a new one on, whatever it is given.
use Rattle.std.specs.Prelude.{ℕ, ◌≡◌, ◌+◌, ◌≤◌, true, false, ◌⊎◌, List, Option, None, length, All}
use Rattle.byte_queues.specs.ReceiveQueue.{Recv, next_of}
use Rattle.tcb_machine.specs.BlockState.{Block, IsOurs, to_listen}
use Rattle.tcb_machine.specs.States.{is_listen}
use Rattle.tcb_machine.specs.TcpStep.{Verdict, over, go, on, is_time_wait}
use Rattle.tcb_machine.specs.declared.kinds.Call.{Call}
use Rattle.tcb_machine.specs.declared.kinds.State.{State}
use Rattle.tcb_machine.specs.declared.kinds.Call.TheVariants.{Status, Buffer, Close}
use Rattle.tcb_machine.specs.Limits.{most_mss, whole_space, plain_space}

-- the receive side, with the receive space asked for
pub record IsReceiving (want : ℕ) (q : Recv) : Type 0 where
  pub asked : want ≤ whole_space
  pub cap : q.cap ≤ whole_space
  pub space : q.edge ≤ q.taken + whole_space
  -- nothing is held at or above the edge, and all that was taken was held
  pub below : q.taken + length q.got ≤ q.edge
  pub read : q.taken ≤ next_of q

-- the send side: bytes acknowledged, sent, and offered
pub record IsSending (acked sent : ℕ) (out : List ℕ) : Type 0 where
  pub acked_sent : acked ≤ sent
  pub sent_out : sent ≤ acked + length out

-- the deadlines, of which at most one is set: that of TIME-WAIT only there, that of retransmission only elsewhere
pub record IsTimed (state : State) (time_wait_at retransmit_at : Option ℕ) : Type 0 where
  pub elsewhere : is_time_wait state ≡ false → time_wait_at ≡ None
  pub there : is_time_wait state ≡ true → retransmit_at ≡ None

pub record IsValid (b : Block) : Type 0 where
  pub recv : IsReceiving b.want b.recv
  pub send : IsSending b.acked b.sent b.out
  pub mss : b.agreed.mss ≤ most_mss
  pub timed : IsTimed b.state b.time_wait_at b.retransmit_at
  -- what was sent: at most 1,460 bytes of text, and no options but ours
  pub ours : All IsOurs b.replies
  -- in LISTEN all is as new
  pub new : is_listen b.state ≡ true → b ≡ to_listen b

-- the receive space that a call asks for is one that can be announced without window scale
abbrev pub IsAskable : Call → Type 0
IsAskable Status = Unit {0}
IsAskable (Buffer n) = n ≤ plain_space
IsAskable Close = Unit {0}

-- the block that a step leaves, before pump and output
abbrev pub left_by : Verdict → Block
left_by (over b) = b
left_by (go b) = b
left_by (on b) = b

-- laws of a valid block

abbrev pub AtMostOneDeadline : Type 0
AtMostOneDeadline = (b : Block) → IsValid b → (b.time_wait_at ≡ None) ⊎ (b.retransmit_at ≡ None)
