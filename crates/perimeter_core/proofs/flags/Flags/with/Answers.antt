use Rattle.perimeter_core.proofs.ShortFlags.{take-set}
use Rattle.perimeter_core.proofs.flags.Flags.with.Goals as goal

pub returns : goal.returns
returns c = rw (← c.self.view_is) (take-set c.self.inside.len c.self.inside.flags c.args.i c.args.value (rw (← c.self.view_is) at c.requires))
