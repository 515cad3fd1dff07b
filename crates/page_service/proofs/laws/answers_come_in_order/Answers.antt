use Rattle.page_service.proofs.KeptLemmas.{answers-come}
use Rattle.page_service.proofs.ResponseLemmas.{goes-on}
use Rattle.page_service.proofs.laws.answers_come_in_order.Goals as goal

pub returns-clause-sent : goal.returns-clause-sent
returns-clause-sent g c = λ p es law i. let s = answers-come p law es i in record { times = s.times; offered = s.sends.same; timely = s.sends.timely; taken = s.opens }

pub returns-clause-goes_on : goal.returns-clause-goes_on
returns-clause-goes_on g c = λ p times more bytes rest law. goes-on p law times more bytes rest
