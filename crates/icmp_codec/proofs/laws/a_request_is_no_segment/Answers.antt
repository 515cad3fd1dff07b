use Rattle.icmp_codec.proofs.RequestLemmas.{no_segment}
use Rattle.icmp_codec.proofs.laws.a_request_is_no_segment.Goals as goal

pub returns : goal.returns
returns c = no_segment
