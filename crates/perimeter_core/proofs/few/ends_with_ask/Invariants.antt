use Rattle.std.proofs.Common.{◌≡◌, take}
use Rattle.perimeter_core.specs.Perimeter.{ends_with_ask}
use Rattle.perimeter_core.proofs.few.ends_with_ask.Given as goal

abbrev pub invariant-loop-e : goal.invariant-loop-e
invariant-loop-e l = l.ends ≡ ends_with_ask l.p (take l.e-index l.entries)
