use Rattle.placed_parts.proofs.PlaceSteps.{part_of, no_part_of}
use Rattle.conn_blocks.specs.Places.{BlockAt}
use Rattle.conn_blocks.proofs.laws.each_block_lies_at_its_place.Goals as goal

pub returns-clause-here : goal.returns-clause-here
returns-clause-here c p calls = part_of (BlockAt p calls)

pub returns-clause-away : goal.returns-clause-away
returns-clause-away c p calls = no_part_of (BlockAt p calls)
