use Rattle.page_service.proofs.PumpsLemmas.{pump-pumps}
use Rattle.page_service.proofs.laws.answers_are_a_pump.Goals as goal

pub returns : goal.returns
returns g c = λ p w law. pump-pumps p law w
