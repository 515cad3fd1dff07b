use Rattle.std.proofs.Common.{arith}
use Rattle.squeue_arrivals.proofs.KeysKept.{came_but}
use Rattle.squeue_arrivals.proofs.keys.seat.Goals as goal

pub place-requires : goal.place-requires
place-requires g c = omega (arith, c.requires.keys.1.0.table.few, c.in-Some.ensures.found.0)

pub returns-in-Some-clause-seated : goal.returns-in-Some-clause-seated
returns-in-Some-clause-seated g c = λ all has. record { keys = has.0; came = came_but all c.args.keys.now c.args.key has.1; none = λ none. cc none }

pub returns-in-Some-clause-place : goal.returns-in-Some-clause-place
returns-in-Some-clause-place g c = (c.in-Some.i, c.in-Some.ensures.found.1, c.place.ensures)
