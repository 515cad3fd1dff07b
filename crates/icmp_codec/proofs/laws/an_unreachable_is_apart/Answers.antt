use Rattle.icmp_codec.proofs.UnreachableLemmas.{not_ping, not_segment, not_too_long}
use Rattle.icmp_codec.proofs.laws.an_unreachable_is_apart.Goals as goal

pub returns-clause-long : goal.returns-clause-long
returns-clause-long c = not_too_long

pub returns-clause-request : goal.returns-clause-request
returns-clause-request c = not_ping

pub returns-clause-segment : goal.returns-clause-segment
returns-clause-segment c = not_segment
