use Rattle.std.proofs.Common.{arith, ap}
use Rattle.byte_queues.specs.ReceiveQueue.{Recv, next_of}
use Rattle.tcb_machine.specs.BlockState.{Block, offered}
use Rattle.tcb_machine.specs.Inside.{block_of}
use Rattle.tcb_machine.specs.TcpStep.{tcp_segment}
use Rattle.tcb_machine.proofs.QueueLemmas.{next_near}
use Rattle.tcb_machine.proofs.SteadyLemmas.{steady-said}
use Rattle.tcb_machine.proofs.tcb.Tcb.segment.Goals as goal

pub returns-clause-clock : goal.returns-clause-clock
unfolding tcp_segment
returns-clause-clock c = (steady-said c.args.now c.args.iss c.args.seg.now c.args.text.now c.in_ok-next.next (block_of c.self.inside) c.args.self.now c.arrive.new.self c.self.view_is c.self.invariant.sent_out c.in_ok-next.ensures).clock

pub returns-clause-taken : goal.returns-clause-taken
unfolding tcp_segment
returns-clause-taken c = (steady-said c.args.now c.args.iss c.args.seg.now c.args.text.now c.in_ok-next.next (block_of c.self.inside) c.args.self.now c.arrive.new.self c.self.view_is c.self.invariant.sent_out c.in_ok-next.ensures).taken

pub returns-clause-next : goal.returns-clause-next
unfolding tcp_segment
returns-clause-next c =
    let t = (steady-said c.args.now c.args.iss c.args.seg.now c.args.text.now c.in_ok-next.next (block_of c.self.inside) c.args.self.now c.arrive.new.self c.self.view_is c.self.invariant.sent_out c.in_ok-next.ensures).taken in
    let old = ap (λ (b : Block). b.recv) c.self.view_is in
    let new = ap (λ (b : Block). b.recv) c.self-2.view_is in
    let old_taken = ap (λ (q : Recv). q.taken) old in
    let new_taken = ap (λ (q : Recv). q.taken) new in
    let old_next = ap next_of old in
    let new_next = ap next_of new in
    let near = next_near c.self-2.inside.recv c.self-2.invariant.below c.self-2.invariant.space in
    let read = c.self.invariant.read in
    omega (arith, t, old_taken, new_taken, old_next, new_next, near, read)

pub returns-clause-offered : goal.returns-clause-offered
unfolding tcp_segment offered
returns-clause-offered c = (steady-said c.args.now c.args.iss c.args.seg.now c.args.text.now c.in_ok-next.next (block_of c.self.inside) c.args.self.now c.arrive.new.self c.self.view_is c.self.invariant.sent_out c.in_ok-next.ensures).offered
