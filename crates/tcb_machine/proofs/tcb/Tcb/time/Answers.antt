use Rattle.std.proofs.Common.{ap, ◌∙◌}
use Rattle.tcb_machine.specs.BlockState.{Block, offered}
use Rattle.tcb_machine.specs.Inside.{block_of}
use Rattle.tcb_machine.proofs.KeepLemmas.{time-kept}
use Rattle.tcb_machine.proofs.tcb.Tcb.time.Goals as goal

pub returns-clause-taken : goal.returns-clause-taken
returns-clause-taken c = (time-kept c.args.to c.args.self.now (block_of c.self.inside) (ap (λ (b : Block). record b { clock = c.args.to }) c.self.view_is ∙ c.in_ok-run_timers.ensures)).taken

pub returns-clause-next : goal.returns-clause-next
returns-clause-next c = (time-kept c.args.to c.args.self.now (block_of c.self.inside) (ap (λ (b : Block). record b { clock = c.args.to }) c.self.view_is ∙ c.in_ok-run_timers.ensures)).next

pub returns-clause-offered : goal.returns-clause-offered
unfolding offered
returns-clause-offered c = (time-kept c.args.to c.args.self.now (block_of c.self.inside) (ap (λ (b : Block). record b { clock = c.args.to }) c.self.view_is ∙ c.in_ok-run_timers.ensures)).offered
