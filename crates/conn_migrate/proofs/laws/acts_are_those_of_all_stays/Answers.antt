use Rattle.histories.proofs.StaysJoin.{all_stays}
use Rattle.conn_migrate.proofs.laws.acts_are_those_of_all_stays.Goals as goal

pub returns-clause-each : goal.returns-clause-each
returns-clause-each c = all_stays

pub returns-clause-linked : goal.returns-clause-linked
returns-clause-linked c = λ n hs d q h are lt at here. all_stays hs d q h are.legal (are.home d lt) (are.linked d lt) at here
