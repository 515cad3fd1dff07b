use Rattle.conn_migrate.proofs.Halves.{moved, takes}
use Rattle.conn_migrate.proofs.OwnMarks.{knows_out}
use Rattle.shard_rings.proofs.way.take_out.Goals as goal

pub take_block-part-requires : goal.take_block-part-requires
take_block-part-requires g c =
    (c.args.way.now.squeue.now, takes c.synch_enter-owner.ensures.came c.synch_enter-owner.ensures.owner c.synch_enter-owner.ensures.no_act c.requires.may)

pub synch_exit-requires : goal.synch_exit-requires
synch_exit-requires g c =
    (c.take_block-part.ensures.taken c.args.way.now.squeue.now (takes c.synch_enter-owner.ensures.came c.synch_enter-owner.ensures.owner c.synch_enter-owner.ensures.no_act c.requires.may)).stands_at

pub returns-clause-moved : goal.returns-clause-moved
returns-clause-moved g c =
    let taken = c.take_block-part.ensures.taken c.args.way.now.squeue.now (takes c.synch_enter-owner.ensures.came c.synch_enter-owner.ensures.owner c.synch_enter-owner.ensures.no_act c.requires.may) in
    moved c.synch_enter-owner.result c.take_block-part.new.owner c.synch_enter-owner.ensures.came c.take_block-part.ensures.pass taken.stands_at.left taken.act c.synch_exit.ensures.goes_on c.synch_exit.ensures.idle c.synch_exit.ensures.left

pub returns-clause-learns : goal.returns-clause-learns
returns-clause-learns g c =
    let taken = c.take_block-part.ensures.taken c.args.way.now.squeue.now (takes c.synch_enter-owner.ensures.came c.synch_enter-owner.ensures.owner c.synch_enter-owner.ensures.no_act c.requires.may) in
    knows_out c.requires.may.may_ask.pass c.requires.may.ring
    (moved c.synch_enter-owner.result c.take_block-part.new.owner c.synch_enter-owner.ensures.came c.take_block-part.ensures.pass taken.stands_at.left taken.act c.synch_exit.ensures.goes_on c.synch_exit.ensures.idle c.synch_exit.ensures.left)
