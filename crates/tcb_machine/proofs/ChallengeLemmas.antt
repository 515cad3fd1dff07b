-- A challenge is alone.
use Rattle.std.proofs.Common.{arith}
use Rattle.tcb_machine.specs.Challenges.{is_challenged, ChallengeIsAlone}
use Rattle.tcb_machine.specs.TcpStep.{arrives, check_reset, check_sequence, check_syn, first_checks, refused}

pub challenge_is_alone : ChallengeIsAlone
unfolding is_challenged arrives first_checks check_sequence check_reset check_syn refused
challenge_is_alone s text b e = grind (arith, e)
