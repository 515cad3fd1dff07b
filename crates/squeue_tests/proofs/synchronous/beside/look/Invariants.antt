use Rattle.std.proofs.Common.{◌≡◌}
use Rattle.turn_gate.specs.Passes.{IsPassOf, number}
use Rattle.histories.specs.Elements.{number_of}
use Rattle.squeue_tests.proofs.synchronous.beside.look.Given as goal

abbrev pub invariant-loop : goal.invariant-loop
invariant-loop g l = record { is : IsPassOf number_of l.squeue.gate l.pass; same : number l.pass ≡ number l.fn.pass }
