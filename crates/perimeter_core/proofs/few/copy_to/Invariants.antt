use Rattle.std.proofs.Common.{◌≡◌, ◌+◌, ◌++◌, take}
use Rattle.perimeter_core.proofs.few.copy_to.Given as goal

abbrev pub invariant-loop-i : goal.invariant-loop-i
invariant-loop-i l = take (l.at + l.i) l.entries ≡ take l.at l.initial.entries ++ take l.i l.list
