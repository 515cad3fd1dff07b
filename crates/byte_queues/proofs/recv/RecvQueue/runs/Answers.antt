use Rattle.std.proofs.Common.{◌≡◌, length, subst, arith}
use Rattle.byte_queues.specs.ReceiveQueue.{Recv, runs_of}
use Rattle.byte_queues.proofs.QueueLemmas.{few-runs, runs-count}
use Rattle.byte_queues.proofs.recv.RecvQueue.runs.Goals as goal

pub overflow_cast-result : goal.overflow_cast-result
overflow_cast-result c = omega (arith, few-runs c.self.inside c.self.invariant)

pub returns : goal.returns
returns c =
    let e = runs-count c.self.inside c.self.invariant in
    subst (λ (q : Recv). c.len.result ≡ length (runs_of q.taken q.got)) c.self.view_is (omega (arith, e))
