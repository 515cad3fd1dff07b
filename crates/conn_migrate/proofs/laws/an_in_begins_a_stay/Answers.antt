use Rattle.histories.proofs.OneSqueue.{in_begins}
use Rattle.conn_migrate.proofs.laws.an_in_begins_a_stay.Goals as goal

pub returns : goal.returns
returns c = in_begins
