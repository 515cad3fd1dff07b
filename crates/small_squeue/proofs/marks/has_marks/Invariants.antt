-- The marks agree so far.
use Rattle.std.proofs.Common.{◌≡◌, take}
use Rattle.small_squeue.proofs.marks.has_marks.Given as goal

abbrev pub invariant-loop-i : goal.invariant-loop-i
invariant-loop-i l = take l.i l.trace.marks ≡ take l.i l.marks
