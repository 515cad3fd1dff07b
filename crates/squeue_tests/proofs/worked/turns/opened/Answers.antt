use Rattle.std.proofs.Common.{true, false, [], ◌∷◌}
use Rattle.perimeter_core.specs.Blocks.{none_done}
use Rattle.perimeter_core.proofs.ActLists.{none_had}
use Rattle.squeue_tests.proofs.worked.turns.opened.Goals as goal

pub make-requires-2-clause-fresh : goal.make-requires-2-clause-fresh
make-requires-2-clause-fresh c =
    (none_done (true ∷ false ∷ []), c.in_ok-logs.ensures.stands, none_had (true ∷ false ∷ []))
