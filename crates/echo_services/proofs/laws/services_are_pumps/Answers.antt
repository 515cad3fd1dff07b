use Rattle.echo_services.proofs.PumpsLemmas.{chargen-pumps, daytime-pumps, discard-pumps, echo-pumps, service-pumps}
use Rattle.echo_services.proofs.laws.services_are_pumps.Goals as goal

pub returns-clause-echo : goal.returns-clause-echo
returns-clause-echo c = echo-pumps

pub returns-clause-discard : goal.returns-clause-discard
returns-clause-discard c = discard-pumps

pub returns-clause-chargen : goal.returns-clause-chargen
returns-clause-chargen c = chargen-pumps

pub returns-clause-daytime : goal.returns-clause-daytime
returns-clause-daytime c = daytime-pumps

pub returns-clause-by_port : goal.returns-clause-by_port
returns-clause-by_port c = service-pumps
