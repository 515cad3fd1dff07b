use Rattle.perimeter_core.proofs.OwnCounts.{own_counts}
use Rattle.perimeter_core.proofs.laws.a_pass_knows_what_it_entered.Goals as goal

pub returns : goal.returns
returns c = own_counts
