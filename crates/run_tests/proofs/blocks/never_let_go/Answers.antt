use Rattle.std.proofs.Common.{rules, ◌<◌, [], length, refl}
use Rattle.placed_parts.specs.Standing.{first_here}
use Rattle.conn_blocks.proofs.PlaceSteps.{here_first}
use Rattle.run_tests.proofs.blocks.never_let_go.Goals as goal

pub held_acts-requires-clause-fresh : goal.held_acts-requires-clause-fresh
held_acts-requires-clause-fresh g c =
    let n = length c.args.plan.now.tuples in
    let some : 0 < length c.args.plan.now.tuples = search rules in
    record { blocks = first_here n 0 1; had = []; stands = c.in_ok-blocks.ensures.stands; here = here_first n 0 1 0 some refl; feeds = refl }
