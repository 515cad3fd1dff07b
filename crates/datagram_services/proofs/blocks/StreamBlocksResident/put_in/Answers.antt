use Rattle.placed_parts.proofs.PlaceSteps.{in_stands}
use Rattle.datagram_services.specs.Standing.{BlockAt}
use Rattle.datagram_services.proofs.blocks.StreamBlocksResident.put_in.Goals as goal

pub returns-clause-stands : goal.returns-clause-stands
returns-clause-stands c blocks note old had = in_stands (BlockAt c.args.self.now.plan.now) c.args.self.now.places.items blocks c.args.c c.args.part note c.requires.range (c.requires.owner, had) old
