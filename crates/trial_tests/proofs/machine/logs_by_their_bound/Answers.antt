use Rattle.std.proofs.Common.{true, false, [], ◌∷◌, refl}
use Rattle.perimeter_core.specs.Blocks.{none_done}
use Rattle.trial_tests.proofs.machine.logs_by_their_bound.Goals as goal

pub each_call-requires-clause-fresh : goal.each_call-requires-clause-fresh
each_call-requires-clause-fresh g c =
    record { blocks = none_done (true ∷ false ∷ []); had = []; stands = c.in_ok-logs.ensures.stands; here = refl; feeds = refl }
