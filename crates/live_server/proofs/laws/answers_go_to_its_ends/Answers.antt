use Rattle.live_server.proofs.SentLemmas.{answers_law}
use Rattle.live_server.proofs.laws.answers_go_to_its_ends.Goals as goal

pub returns : goal.returns
returns c = answers_law
