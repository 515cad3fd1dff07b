use Rattle.perimeter_core.proofs.QueuedRange.{queued_range}
use Rattle.perimeter_core.proofs.laws.queued_entries_are_in_range.Goals as goal

pub returns : goal.returns
returns c = queued_range
