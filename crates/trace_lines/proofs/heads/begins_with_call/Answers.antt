use Rattle.trace_lines.proofs.CallLines.{call_or_not}
use Rattle.trace_lines.proofs.heads.begins_with_call.Goals as goal

pub returns : goal.returns
returns c = call_or_not _ c.args.text.now c.starts_with.ensures.value
