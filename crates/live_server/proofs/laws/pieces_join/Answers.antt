use Rattle.live_server.proofs.PieceLemmas.{pieces_join_proof}
use Rattle.live_server.proofs.laws.pieces_join.Goals as goal

pub returns : goal.returns
returns c = pieces_join_proof
