use Rattle.icmp_codec.proofs.RequestLemmas.{read_from}
use Rattle.icmp_codec.proofs.laws.a_request_fits.Goals as goal

pub returns : goal.returns
returns c = read_from
