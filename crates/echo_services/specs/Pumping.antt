-- What holds of the pump of each service here, outside LISTEN.
use Rattle.std.specs.Prelude.{◌≡◌, ◌+◌, ◌-◌, ◌≤◌, Bool, true, false, length}
use Rattle.byte_queues.specs.Limits.{send_space}
use Rattle.byte_queues.specs.ReceiveQueue.{next_of, ready_of}
use Rattle.tcb_machine.specs.BlockState.{Block}
use Rattle.tcb_machine.specs.States.{is_listen}
use Rattle.tcb_machine.specs.Validity.{IsValid, IsReceiving, IsSending, IsTimed}
use Rattle.tcb_machine.specs.declared.kinds.State.{State}
use Rattle.tcb_machine.specs.declared.kinds.State.TheVariants.{Listen, SynReceived, Established, FinWait1, FinWait2, CloseWait, Closing, LastAck, TimeWait}

-- the states in which a service may offer text (RFC 9293, 3.10.2)
abbrev pub may_offer : State → Bool
may_offer Listen = false
may_offer SynReceived = false
may_offer Established = true
may_offer FinWait1 = false
may_offer FinWait2 = false
may_offer CloseWait = true
may_offer Closing = false
may_offer LastAck = false
may_offer TimeWait = false

-- it takes no more than is ready, offers no more than a send queue holds, sends nothing itself, and leaves a valid block
pub record Pumps (b c : Block) : Type 0 where
  pub opened : is_listen c.state ≡ false
  pub recv : IsReceiving c.want c.recv
  pub send : IsSending c.acked c.sent c.out
  pub mss : c.agreed.mss ≡ b.agreed.mss
  pub timed : IsTimed c.state c.time_wait_at c.retransmit_at
  pub replies : c.replies ≡ b.replies
  pub least : b.recv.taken ≤ c.recv.taken
  pub most : c.recv.taken - b.recv.taken ≤ ready_of b.recv
  pub next : next_of c.recv ≡ next_of b.recv
  pub acked : c.acked ≡ b.acked
  pub out : length c.out ≤ length b.out + send_space
  pub silent : may_offer b.state ≡ false → length c.out ≡ length b.out

abbrev pub IsPump : (Block → Block) → Type 0
IsPump pump = (b : Block) → is_listen b.state ≡ false → IsValid b → Pumps b (pump b)
