use Rattle.std.proofs.Common.{◌≡◌, map, take}
use Rattle.stream_plan.specs.Sorting.{filled}
use Rattle.stream_plan.proofs.streams.fill.Given as goal

abbrev pub invariant-loop-c : goal.invariant-loop-c
invariant-loop-c l = l.streams.items ≡ filled l.last l.fn.streams.items (take l.c (map (λ v. v.items) l.segments))
