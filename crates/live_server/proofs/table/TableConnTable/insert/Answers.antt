use Rattle.std.proofs.Common.{◌∙◌}
use Rattle.live_server.proofs.TableLemmas.{appended}
use Rattle.live_server.proofs.table.TableConnTable.insert.Goals as goal

pub returns-clause-put : goal.returns-clause-put
returns-clause-put c = c.in_ok-insert.ensures.entries ∙ appended c.args.ends c.args.conn c.args.self.now.entries c.requires.new
