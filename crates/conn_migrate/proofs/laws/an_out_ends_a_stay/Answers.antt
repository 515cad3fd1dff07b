use Rattle.histories.proofs.OneSqueue.{out_ends}
use Rattle.conn_migrate.proofs.laws.an_out_ends_a_stay.Goals as goal

pub returns : goal.returns
returns c = out_ends
