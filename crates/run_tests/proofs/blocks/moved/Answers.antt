use Rattle.std.proofs.Common.{rules, ◌<◌, [], length, refl, arith}
use Rattle.placed_parts.specs.Standing.{first_here}
use Rattle.conn_blocks.proofs.PlaceSteps.{here_first, away_first}
use Rattle.run_tests.proofs.blocks.moved.Goals as goal

pub first_acts-requires-clause-fresh : goal.first_acts-requires-clause-fresh
first_acts-requires-clause-fresh g c =
    let n = length c.args.plan.now.tuples in
    let some : 0 < length c.args.plan.now.tuples = search rules in
    record { blocks = first_here n 0 2; had = []; stands = c.in_ok-first.ensures.stands; here = here_first n 0 2 0 some refl; feeds = refl }

pub move_over-requires-clause-away : goal.move_over-requires-clause-away
move_over-requires-clause-away g c =
    let n = length c.args.plan.now.tuples in
    record { blocks = first_here n 1 2; stands = c.in_ok-second.ensures.stands; away = away_first n 1 2 0 (λ e. (let no : ⊥ = omega (arith, e) in no)) }
