-- CLOSE behind all that is thrown away.
use Rattle.std.proofs.Common.{◌≡◌, ◌+◌, length, refl, sym, ap, ◌∙◌, arith}
use Rattle.byte_queues.specs.ReceiveQueue.{next_of, ready_of}
use Rattle.byte_queues.specs.SendQueue.{room_of}
use Rattle.tcb_machine.specs.BlockState.{Block, offered}
use Rattle.tcb_machine.specs.CallAnswers.{Called, close_in, tcp_call}
use Rattle.tcb_machine.specs.TcpStep.{said}
use Rattle.tcb_machine.specs.Validity.{left_by}
use Rattle.tcb_machine.specs.declared.kinds.Answer.{Answer}
use Rattle.tcb_machine.specs.declared.kinds.Call.TheVariants.{Close}
use Rattle.tcb_machine.specs.declared.kinds.Next.{Next}
use Rattle.tcb_machine.specs.declared.kinds.Next.TheVariants.{Over, Go}
use Rattle.tcb_machine.specs.declared.kinds.State.{State}
use Rattle.tcb_machine.specs.declared.kinds.State.TheVariants.{Listen, SynReceived, Established, FinWait1, FinWait2, CloseWait, Closing, LastAck, TimeWait}
use Rattle.tcb_machine.proofs.QueueLemmas.{next_without}
use Rattle.echo_services.specs.Closing.{throws}
use Rattle.page_service.specs.Pump.{closes}

pub closed_recv : (st : State) (c : Block) → (left_by (close_in st c).verdict).recv ≡ c.recv
closed_recv Established c = refl
closed_recv CloseWait c = refl
closed_recv Listen c = refl
closed_recv SynReceived c = refl
closed_recv FinWait1 c = refl
closed_recv FinWait2 c = refl
closed_recv Closing c = refl
closed_recv LastAck c = refl
closed_recv TimeWait c = refl

pub closed_out : (st : State) (c : Block) → (left_by (close_in st c).verdict).out ≡ c.out
closed_out Established c = refl
closed_out CloseWait c = refl
closed_out Listen c = refl
closed_out SynReceived c = refl
closed_out FinWait1 c = refl
closed_out FinWait2 c = refl
closed_out Closing c = refl
closed_out LastAck c = refl
closed_out TimeWait c = refl

closed_acked : (st : State) (c : Block) → (left_by (close_in st c).verdict).acked ≡ c.acked
closed_acked Established c = refl
closed_acked CloseWait c = refl
closed_acked Listen c = refl
closed_acked SynReceived c = refl
closed_acked FinWait1 c = refl
closed_acked FinWait2 c = refl
closed_acked Closing c = refl
closed_acked LastAck c = refl
closed_acked TimeWait c = refl

left-said : (n : Next) (c : Block) → left_by (said n c) ≡ c
left-said Over c = refl
left-said Go c = refl

-- the block that the call leaves
pub called_left : (b c : Block) (a : Answer) (n : Next) → tcp_call Close b ≡ record { answer = a; verdict = said n c } → c ≡ left_by (close_in b.state b).verdict
unfolding tcp_call
called_left b c a n e = sym (left-said n c) ∙ sym (ap (λ (x : Called). left_by x.verdict) e)

pub closes_next : (b : Block) → next_of (closes b).recv ≡ next_of b.recv
closes_next b = ap next_of (closed_recv b.state (throws (ready_of b.recv) b)) ∙ next_without (ready_of b.recv) b.recv (omega arith)

pub closes_offered : (b : Block) → offered (closes b) + room_of (closes b).out ≡ offered b + room_of b.out
unfolding offered
closes_offered b =
    let c = throws (ready_of b.recv) b in
    let a = closed_acked b.state c in
    let o = ap length (closed_out b.state c) in
    omega (arith, a, o)
