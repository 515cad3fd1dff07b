use Rattle.std.proofs.Common.{arith, length}
use Rattle.shard_rings.specs.Knowing.{sent_of}
use Rattle.shard_rings.proofs.way.begin_anew.Goals as goal

pub returns-clause-at : goal.returns-clause-at
returns-clause-at g c =
    let some = c.args.way.now.spans.0 in
    let spent = c.if-cell-way.false in
    c.renew.ensures c.args.cell.now.entered (length (sent_of c.args.cell.now)) (omega (arith, some, spent)) c.requires.at
