use Rattle.perimeter_core.proofs.BehindAnAsk.{none_behind}
use Rattle.perimeter_core.proofs.laws.nothing_stands_behind_an_ask.Goals as goal

pub returns : goal.returns
returns c = none_behind
