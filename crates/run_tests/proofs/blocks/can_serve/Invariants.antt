use Rattle.std.proofs.Common.{take}
use Rattle.std.specs.List.{AllByRecursion}
use Rattle.conn_blocks.specs.ServeOrder.{IsActOf}
use Rattle.run_tests.proofs.FeedsInOrder.{RisesTo}
use Rattle.run_tests.proofs.blocks.can_serve.Given as goal

abbrev pub invariant-loop-act : goal.invariant-loop-act
invariant-loop-act l = record {
  acts : AllByRecursion (IsActOf l.plan l.calls 0) (take l.act-index l.order);
  rising : RisesTo 0 l.least (take l.act-index l.order);
}
