use Rattle.squeue_state.proofs.Turns.{turn_made}
use Rattle.squeue_state.proofs.squeue.Squeue.turn.Goals as goal

pub invariant_of-result : goal.invariant_of-result
invariant_of-result g c = turn_made g.R.Resident c.args.self.now c.of.result.value c.self.inside.gate c.args.pass c.hold_soon.result c.of.ensures c.self.view_is c.hold_soon.ensures.takes
