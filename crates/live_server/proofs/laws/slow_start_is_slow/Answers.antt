use Rattle.live_server.proofs.PromiseLemmas.{again_within, slow_segment, timeout_narrow}
use Rattle.live_server.proofs.laws.slow_start_is_slow.Goals as goal

pub returns-clause-timeout : goal.returns-clause-timeout
returns-clause-timeout c = timeout_narrow

pub returns-clause-segment : goal.returns-clause-segment
returns-clause-segment c = slow_segment

pub returns-clause-again : goal.returns-clause-again
returns-clause-again c = again_within
