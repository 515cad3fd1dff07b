use Rattle.live_server.proofs.LawLemmas.{segment_keeps_table}
use Rattle.live_server.proofs.TickLemmas.{time_keeps_table}
use Rattle.live_server.proofs.laws.the_table_is_bounded.Goals as goal

pub returns-clause-segment : goal.returns-clause-segment
returns-clause-segment c = segment_keeps_table

pub returns-clause-time : goal.returns-clause-time
returns-clause-time c = time_keeps_table
