use Rattle.std.proofs.Common.{◌≡◌, take}
use Rattle.perimeter_core.specs.Perimeter.{has_ask}
use Rattle.perimeter_core.proofs.few.has_ask.Given as goal

abbrev pub invariant-loop-e : goal.invariant-loop-e
invariant-loop-e l = l.found ≡ has_ask l.p (take l.e-index l.entries)
