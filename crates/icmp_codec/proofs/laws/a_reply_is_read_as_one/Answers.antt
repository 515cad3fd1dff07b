use Rattle.icmp_codec.proofs.AnsweredLemmas.{reads_as_reply}
use Rattle.icmp_codec.proofs.laws.a_reply_is_read_as_one.Goals as goal

pub returns : goal.returns
returns c = reads_as_reply
