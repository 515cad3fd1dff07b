use Rattle.histories.proofs.StaysKept.{reports_are_done}
use Rattle.conn_migrate.proofs.laws.what_is_reported_is_done_in_a_stay.Goals as goal

pub returns : goal.returns
returns c = reports_are_done
