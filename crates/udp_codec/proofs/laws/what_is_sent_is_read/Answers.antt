use Rattle.udp_codec.proofs.ReadAgainLemmas.{reads_again}
use Rattle.udp_codec.proofs.laws.what_is_sent_is_read.Goals as goal

pub returns : goal.returns
returns c = reads_again
