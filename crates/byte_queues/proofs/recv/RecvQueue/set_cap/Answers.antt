use Rattle.std.proofs.Common.{◌+◌, ◌^◌, min, arith}
use Rattle.byte_queues.specs.ReceiveQueue.{next_of}
use Rattle.byte_queues.proofs.RunLemmas.{spaced-low, spaced-higher}
use Rattle.byte_queues.proofs.recv.RecvQueue.set_cap.Goals as goal

pub overflow_add-self-inside : goal.overflow_add-self-inside
overflow_add-self-inside c =
    let a = c.self.inside in
    let low = spaced-low a.taken (min (a.edge + 1) (2 ^ 62 + 2 ^ 32)) a.runs.items c.self.invariant.spaced in
    omega (arith, low)

pub invariant_of-self : goal.invariant_of-self
unfolding next_of
invariant_of-self c =
    let a = c.self.inside in
    record {
      spaced = spaced-higher a.taken (min (a.edge + 1) (2 ^ 62 + 2 ^ 32)) (min (c.max-self-inside.result + 1) (2 ^ 62 + 2 ^ 32)) a.runs.items (omega arith) c.self.invariant.spaced;
      few = c.self.invariant.few;
      edge = omega arith;
      read = c.self.invariant.read;
    }
