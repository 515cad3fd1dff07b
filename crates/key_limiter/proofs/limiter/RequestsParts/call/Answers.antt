use Rattle.std.proofs.Common.{◌∷◌, [], arith}
use Rattle.squeue.proofs.NextFeed.{fed-append}
use Rattle.squeue.specs.declared.Act.TheVariants as Did
use Rattle.key_limiter.proofs.limiter.RequestsParts.call.Goals as goal

pub returns-clause-stands : goal.returns-clause-stands
returns-clause-stands c had old = omega (arith, fed-append had (Did.Call c.args._j c.args._k ∷ []), old)
