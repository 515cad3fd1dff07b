use Rattle.std.proofs.Common.{arith}
use Rattle.squeue_state.proofs.Reading.{reads, few_queued}
use Rattle.squeue_state.proofs.turn.Turn.chain_len.Goals as goal

pub overflow_cast-result : goal.overflow_cast-result
overflow_cast-result g c =
    let b = reads g.R.Resident c.self.inside.of.value c.self.inside.held c.args.self.now c.get.result.now c.self.invariant c.self.view_is c.get.ensures in
    omega (arith, c.len.ensures, c.get.result.now.inner.chain.ok.0, few_queued g.R.Resident c.args.self.now.squeue.given c.get.result.now.inner c.args.self.now.found b)
