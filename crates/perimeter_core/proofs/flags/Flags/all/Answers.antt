use Rattle.std.proofs.lemmas.List.{take-replicate}
use Rattle.perimeter_core.proofs.flags.Flags.all.Goals as goal

pub returns : goal.returns
returns c = take-replicate c.args.len 64 c.args.value c.requires
