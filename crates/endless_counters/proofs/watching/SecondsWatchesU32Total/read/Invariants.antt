use Rattle.std.proofs.Common.{take}
use Rattle.endless_counters.specs.Counting.{AreSummed, held_at}
use Rattle.endless_counters.proofs.watching.SecondsWatchesU32Total.read.Given as goal

abbrev pub invariant-loop-place : goal.invariant-loop-place
invariant-loop-place g l = AreSummed held_at (take l.place-index l.parts) l.all
