use Rattle.conn_blocks.proofs.PlaceSteps.{new_fits}
use Rattle.conn_blocks.proofs.blocks.Blocks.place.Goals as goal

pub returns-clause-fits : goal.returns-clause-fits
returns-clause-fits c = new_fits c.args.plan.now c.args.calls.now c.args.c c.in_ok-block.block c.args.here c.if-not-here.false c.in_ok-block.ensures
