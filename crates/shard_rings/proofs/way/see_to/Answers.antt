use Rattle.std.proofs.Common.{arith, length}
use Rattle.shard_rings.specs.Knowing.{sent_of}
use Rattle.shard_rings.proofs.way.see_to.Goals as goal

pub returns-clause-at : goal.returns-clause-at
returns-clause-at g c = c.renew.ensures c.args.cell.now.entered (length (sent_of c.args.cell.now)) (omega (arith, c.if-cell-eq0.false)) c.requires.at
