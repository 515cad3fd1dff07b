use Rattle.live_server.proofs.TableLemmas.{gone_from}
use Rattle.live_server.proofs.table.leave.Goals as goal

pub returns-clause-gone : goal.returns-clause-gone
returns-clause-gone c = λ t at. gone_from t c.args.place c.args.table.now c.swap_remove_index.new.self c.swap_remove_index.result c.swap_remove_index.ensures.entry c.swap_remove_index.ensures.updates at
