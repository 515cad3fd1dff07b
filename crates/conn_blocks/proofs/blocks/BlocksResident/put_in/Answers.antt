use Rattle.std.proofs.Common.{◌<◌, length, subst, arith}
use Rattle.placed_parts.proofs.PlaceSteps.{in_stands}
use Rattle.conn_blocks.specs.Holding.{StandsFor}
use Rattle.conn_blocks.specs.Places.{BlockAt}
use Rattle.conn_blocks.proofs.blocks.BlocksResident.put_in.Goals as goal

pub returns-clause-stands : goal.returns-clause-stands
returns-clause-stands c blocks note old part =
    let r = c.args.self.now in
    let places = r.places.items in
    let lt : c.args.c < length places = omega (arith, c.requires.range, r.each) in
    let its_own : StandsFor r.plan r.calls.now c.args.c note c.args.part.value = subst (λ w. StandsFor w.plan w.calls w.c note c.args.part.value) c.requires.owner part in
    in_stands (BlockAt r.plan r.calls.now) places blocks c.args.c c.args.part note lt its_own old
