use Rattle.trace_replay.proofs.Apart.{one_reason}
use Rattle.trace_replay.proofs.laws.an_input_has_one_reason.Goals as goal

pub returns : goal.returns
returns c = one_reason
