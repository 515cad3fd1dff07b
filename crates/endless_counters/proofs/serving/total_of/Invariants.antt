use Rattle.std.proofs.Common.{take}
use Rattle.endless_counters.specs.Counting.{AreSummed}
use Rattle.endless_counters.specs.Serving.{total_by}
use Rattle.endless_counters.proofs.serving.total_of.Given as goal

abbrev pub invariant-loop-ring : goal.invariant-loop-ring
invariant-loop-ring g l = AreSummed total_by (take l.ring-index l.rings) l.all
