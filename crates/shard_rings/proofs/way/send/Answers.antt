use Rattle.std.proofs.Common.{◌+◌, length}
use Rattle.rtrb.specs.Ring.{sent}
use Rattle.shards.specs.Sharing.{limits_for}
use Rattle.shard_rings.specs.Knowing.{sent_of}
use Rattle.shard_rings.proofs.Knowing.{one_sent}
use Rattle.shard_rings.proofs.way.send.Goals as goal

pub returns-clause-at : goal.returns-clause-at
returns-clause-at g c =
    let was = c.begin_anew-pass.new.cell in
    one_sent limits_for c.args.way.now.squeue.now c.args.way.now.ring (sent_of was) (sent c.push.new.output) c.args.parcel (was.entered + 1) c.enter.result c.push.ensures.pushed (c.enter.ensures (length (sent_of was)) c.begin_anew-pass.ensures.at)
