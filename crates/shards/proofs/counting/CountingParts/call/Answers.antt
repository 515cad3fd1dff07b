use Rattle.std.proofs.Common.{◌∙◌, ◌∷◌, [], arith}
use Rattle.perimeter_core.specs.declared.entries.Act.TheVariants as Did
use Rattle.perimeter_core.proofs.NextFeed.{fed-append}
use Rattle.shards.proofs.counting.CountingParts.call.Goals as goal

pub returns-clause-stands : goal.returns-clause-stands
returns-clause-stands c had had_is = fed-append had (Did.Call c.args._j c.args._k ∷ []) ∙ omega (arith, had_is)
