use Rattle.http_pages.proofs.Standing.{answer_to-append, answer_to-take, answer_to-count}
use Rattle.http_pages.proofs.TextLemmas.{answer_text-length}
use Rattle.http_pages.proofs.AloneLemmas.{answer_to-alone}
use Rattle.http_pages.proofs.laws.answers_stand.Goals as goal

pub returns-clause-goes_on : goal.returns-clause-goes_on
returns-clause-goes_on c = answer_to-append

pub returns-clause-looked_at : goal.returns-clause-looked_at
returns-clause-looked_at c = answer_to-take

pub returns-clause-counted : goal.returns-clause-counted
returns-clause-counted c = answer_to-count

pub returns-clause-long : goal.returns-clause-long
returns-clause-long c = answer_text-length

pub returns-clause-alone : goal.returns-clause-alone
returns-clause-alone c = answer_to-alone
