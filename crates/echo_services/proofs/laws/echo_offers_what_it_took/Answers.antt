use Rattle.echo_services.proofs.CloseLemmas.{gives-back-all}
use Rattle.echo_services.proofs.EchoLemmas.{offers-what-it-took}
use Rattle.echo_services.proofs.laws.echo_offers_what_it_took.Goals as goal

pub returns-clause-before : goal.returns-clause-before
returns-clause-before c = offers-what-it-took

pub returns-clause-behind : goal.returns-clause-behind
returns-clause-behind c = gives-back-all
