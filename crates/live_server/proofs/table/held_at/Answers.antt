use Rattle.std.proofs.Common.{◌∙◌, sym}
use Rattle.tcb_machine.specs.BlockState.{held_in}
use Rattle.live_server.proofs.HeldLemmas.{none_holds}
use Rattle.live_server.proofs.TableLemmas.{conn_missed}
use Rattle.live_server.proofs.table.held_at.Goals as goal

pub returns-in-None : goal.returns-in-None
returns-in-None c = sym none_holds ∙ conn_missed (λ x. held_in x.tcb) c.args.table.now.entries c.args.place c.get_index.result c.get_index.ensures.entry c.in-None.is
