use Rattle.std.proofs.Common.{◌≤◌, vec_capacity}
use Rattle.ring_threads.specs.Working.{AreEach, IsFirst}
use Rattle.ring_threads.proofs.plan_work.residents_for.Given as goal

abbrev pub invariant-loop-q : goal.invariant-loop-q
invariant-loop-q l =
    record {
      residents : AreEach (IsFirst l.plan l.calls l.setup) l.q l.residents.items;
      room : l.setup.squeues ≤ vec_capacity l.residents;
    }
