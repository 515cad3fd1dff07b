use Rattle.std.proofs.Common.{ap, arith, length}
use Rattle.byte_queues.specs.ReceiveQueue.{next_of}
use Rattle.tcb_machine.specs.BlockState.{new_block, offered}
use Rattle.tcb_machine.proofs.KeepLemmas.{time-less, time-offered, output-same, output-offered, resent-same}
use Rattle.tcb_machine.proofs.ValidLemmas.{segment-next, segment-offered, call-next, call-offered}
use Rattle.tcb_machine.proofs.laws.streams_grow_little.Goals as goal

pub returns-clause-new : goal.returns-clause-new
unfolding new_block next_of offered
returns-clause-new c = (omega arith, omega arith)

pub returns-clause-segment : goal.returns-clause-segment
returns-clause-segment c = λ most now iss s text b v h.
    let n = segment-next now iss s text b v in
    let o = segment-offered now iss s text b v in
    let hn = h.0 in
    let ho = h.1 in
    (omega (arith, n, hn), omega (arith, o, ho))

pub returns-clause-time : goal.returns-clause-time
returns-clause-time c = λ most to b h.
    let n = (time-less to b).next in
    let o = time-offered to b in
    let hn = h.0 in
    let ho = h.1 in
    (omega (arith, n, hn), omega (arith, o, ho))

pub returns-clause-call : goal.returns-clause-call
returns-clause-call c = λ most call b h.
    let n = call-next call b in
    let o = call-offered call b in
    let hn = h.0 in
    let ho = h.1 in
    (omega (arith, n, hn), omega (arith, o, ho))

pub returns-clause-output : goal.returns-clause-output
returns-clause-output c = λ most b h.
    let n = ap next_of (output-same b).recv in
    let o = output-offered b in
    let hn = h.0 in
    let ho = h.1 in
    (omega (arith, n, hn), omega (arith, o, ho))

pub returns-clause-resent : goal.returns-clause-resent
unfolding offered
returns-clause-resent c = λ most b h.
    let k = resent-same b.state b in
    let n = ap next_of k.recv in
    let a = k.acked in
    let o = ap length k.out in
    let hn = h.0 in
    let ho = h.1 in
    (omega (arith, n, hn), omega (arith, a, o, ho))
