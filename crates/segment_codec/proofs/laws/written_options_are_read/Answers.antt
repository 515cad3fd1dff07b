use Rattle.segment_codec.proofs.SentIsReadLemmas.{options_read_again}
use Rattle.segment_codec.proofs.laws.written_options_are_read.Goals as goal

pub returns : goal.returns
returns c = options_read_again
