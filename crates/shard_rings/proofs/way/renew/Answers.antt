use Rattle.std.proofs.Common.{refl, sym}
use Rattle.shards.specs.Sharing.{limits_for}
use Rattle.shard_rings.proofs.Knowing.{came_in, may_come, may_leave, went_out}
use Rattle.shard_rings.proofs.way.renew.Goals as goal

pub take_out-pass-requires : goal.take_out-pass-requires
take_out-pass-requires g c =
    let at = c.requires.at in
    record { may = may_leave limits_for c.args.way.now.squeue.now c.args.way.now.ring at.0 at.1 c.args.pass c.requires.serves at.3 at.4 }

pub put_in-requires-clause-may : goal.put_in-requires-clause-may
put_in-requires-clause-may g c =
    let s = c.args.way.now.squeue.now in
    let r = c.args.way.now.ring in
    let at = c.requires.at in
    may_come limits_for s r at.1 c.take_out-pass.result c.requires.serves at.3
    (went_out limits_for s r at.0 at.1 c.args.pass c.take_out-pass.result at.2 c.take_out-pass.ensures.moved c.take_out-pass.ensures.learns at.4)

pub put_in-requires-clause-new : goal.put_in-requires-clause-new
put_in-requires-clause-new g c = (refl, sym c.none.ensures)

pub returns : goal.returns
returns g c n fed some at =
    let s = c.args.way.now.squeue.now in
    let r = c.args.way.now.ring in
    came_in limits_for s r fed c.take_out-pass.result c.put_in.result c.put_in.ensures.moved c.put_in.ensures.learns c.put_in.ensures.next
    (went_out limits_for s r n fed c.args.pass c.take_out-pass.result some c.take_out-pass.ensures.moved c.take_out-pass.ensures.learns at)
