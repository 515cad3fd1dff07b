use Rattle.icmp_codec.proofs.AnsweredLemmas.{no_request}
use Rattle.icmp_codec.proofs.laws.a_reply_is_no_request.Goals as goal

pub returns : goal.returns
returns c = no_request
