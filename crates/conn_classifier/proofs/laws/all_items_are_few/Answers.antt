use Rattle.conn_classifier.proofs.ItemsTogether.{few_together}
use Rattle.conn_classifier.proofs.laws.all_items_are_few.Goals as goal

pub returns : goal.returns
returns c = few_together
