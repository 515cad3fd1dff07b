use Rattle.http_pages.proofs.AcceptLemmas.{accepted}
use Rattle.http_pages.proofs.GrammarLemmas.{read}
use Rattle.http_pages.proofs.laws.heads_are_the_grammars.Goals as goal

pub returns-clause-read : goal.returns-clause-read
returns-clause-read c = read

pub returns-clause-accepted : goal.returns-clause-accepted
returns-clause-accepted c = accepted
