use Rattle.page_service.proofs.RestLemmas.{pump-rests}
use Rattle.page_service.proofs.laws.requests_are_answered.Goals as goal

pub returns : goal.returns
returns g c = λ p w b law f m. pump-rests p law w b f m
