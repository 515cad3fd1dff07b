use Rattle.std.proofs.Common.{◌≡◌, ◌-◌, true, length, subst, ap, ◌∙◌, arith}
use Rattle.byte_queues.specs.ReceiveQueue.{Recv, runs}
use Rattle.byte_queues.specs.Runs.{front_of}
use Rattle.byte_queues.proofs.QueueLemmas.{ahead, above-is}
use Rattle.byte_queues.proofs.recv.RecvQueue.runs_above.Goals as goal

pub returns : goal.returns
returns c =
    let a = c.self.inside in
    let f : length c.front-here.result.now ≡ ahead a = ap length (c.front-here.ensures ∙ ap (front_of a.taken) c.as_slice.ensures.value) in
    let e = above-is a c.self.invariant in
    subst (λ (q : Recv). c.len.result - c.min.result ≡ runs true q.got) c.self.view_is (omega (arith, e, f))
