use Rattle.std.proofs.Common.{◌≡◌, map, take}
use Rattle.key_limiter.specs.Limiting.{decisions_of}
use Rattle.key_limiter.proofs.deciding.decide.Given as goal

abbrev pub invariant-loop-c : goal.invariant-loop-c
invariant-loop-c g l = map (λ row. row.items) l.all.items ≡ map (decisions_of l.fn.limit) (take l.c (map (λ row. row.items) l.requests))
