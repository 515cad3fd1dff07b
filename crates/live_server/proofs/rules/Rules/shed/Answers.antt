use Rattle.std.proofs.Common.{sym}
use Rattle.live_server.proofs.ShedLemmas.{not_for_nobody}
use Rattle.live_server.proofs.rules.Rules.shed.Goals as goal

pub returns-in-Nobody-clause-table : goal.returns-in-Nobody-clause-table
returns-in-Nobody-clause-table g c = sym (not_for_nobody c.args.self.now.setting c.args.self.now.turned (g.T.ConnTable.conns c.args.self.now.table) c.in-Nobody.is)
