use Rattle.std.proofs.Common.{rules}
use Rattle.turn_gate.proofs.Passing.{waited_not, hit_waits, miss_waits}
use Rattle.turn_gate.proofs.gate.Gate.try_once.Goals as goal

pub returns-then-peek-gt0 : goal.returns-then-peek-gt0
returns-then-peek-gt0 g c = (search rules, waited_not _)

pub returns-in-Ok : goal.returns-in-Ok
returns-in-Ok g c = (search rules, hit_waits _ _ _ (waited_not _) c.in-Ok.ensures.1)

pub returns-in-Err : goal.returns-in-Err
returns-in-Err g c = (search rules, miss_waits {E = g.row.T-Element.Denot} _ _ c.in-Err.field-0 (waited_not _) c.in-Err.ensures.0)
