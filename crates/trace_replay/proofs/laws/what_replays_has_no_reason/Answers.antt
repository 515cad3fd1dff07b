use Rattle.trace_replay.proofs.Answered.{not_both}
use Rattle.trace_replay.proofs.laws.what_replays_has_no_reason.Goals as goal

pub returns : goal.returns
returns c input r = not_both r input
