use Rattle.perimeter_core.proofs.NumberedActs.{numbered}
use Rattle.perimeter_core.proofs.laws.acts_are_numbered.Goals as goal

pub returns : goal.returns
returns c = λ S H d. numbered S d H
