use Rattle.std.proofs.Common.{◌+◌, sym, ap, ◌∙◌, arith}
use Rattle.byte_queues.specs.ReceiveQueue.{next_of}
use Rattle.byte_queues.proofs.QueueLemmas.{ahead, ahead-fits, next-is, up-to-le}
use Rattle.byte_queues.proofs.recv.RecvQueue.ready.Goals as goal

pub overflow_cast-result : goal.overflow_cast-result
overflow_cast-result c =
    let a = c.self.inside in
    let e = c.next.ensures.next ∙ (ap next_of (sym c.self.view_is) ∙ next-is a c.self.invariant) in
    omega (arith, e, up-to-le a.stream_end (a.taken + ahead a), ahead-fits a c.self.invariant)
