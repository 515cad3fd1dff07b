use Rattle.histories.proofs.StaysKept.{same_stays}
use Rattle.conn_migrate.proofs.laws.a_ring_knows_the_stays.Goals as goal

pub returns : goal.returns
returns c = same_stays
