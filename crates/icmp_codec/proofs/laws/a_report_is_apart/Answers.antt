use Rattle.icmp_codec.proofs.TooLongLemmas.{no_ping, no_segment}
use Rattle.icmp_codec.proofs.laws.a_report_is_apart.Goals as goal

pub returns-clause-request : goal.returns-clause-request
returns-clause-request c = no_ping

pub returns-clause-segment : goal.returns-clause-segment
returns-clause-segment c = no_segment
