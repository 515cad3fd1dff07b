use Rattle.std.proofs.Common.{◌∙◌}
use Rattle.live_server.proofs.TableLemmas.{within_at, without_set}
use Rattle.live_server.proofs.table.urge_at.Goals as goal

pub returns-in-Err-clause-lost : goal.returns-in-Err-clause-lost
returns-in-Err-clause-lost c =
    c.leave.ensures.table ∙ without_set c.args.table.now.entries c.args.place c.urge.new.self (within_at c.args.tuple.now c.args.table.now.entries c.args.place c.requires)
