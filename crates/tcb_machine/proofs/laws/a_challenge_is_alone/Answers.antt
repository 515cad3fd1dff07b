use Rattle.tcb_machine.proofs.ChallengeLemmas.{challenge_is_alone}
use Rattle.tcb_machine.proofs.laws.a_challenge_is_alone.Goals as goal

pub returns : goal.returns
returns c = challenge_is_alone
