use Rattle.page_service.specs.Site.{site, site-sound}
use Rattle.page_service.proofs.KeptLemmas.{answers-come}
use Rattle.page_service.proofs.PumpsLemmas.{pump-pumps}
use Rattle.page_service.proofs.ResponseLemmas.{goes-on}
use Rattle.page_service.proofs.RestLemmas.{pump-rests}
use Rattle.page_service.proofs.site.pages_answer_what_came.Goals as goal

pub returns-clause-sent : goal.returns-clause-sent
returns-clause-sent c = λ pages es i. let s = answers-come (site pages) (site-sound pages) es i in record { times = s.times; offered = s.sends.same; timely = s.sends.timely; taken = s.opens }

pub returns-clause-goes_on : goal.returns-clause-goes_on
returns-clause-goes_on c = λ pages. goes-on (site pages) (site-sound pages)

pub returns-clause-rests : goal.returns-clause-rests
returns-clause-rests c = λ pages w b f m. pump-rests (site pages) (site-sound pages) w b f m

pub returns-clause-pump : goal.returns-clause-pump
returns-clause-pump c = λ pages w. pump-pumps (site pages) (site-sound pages) w
