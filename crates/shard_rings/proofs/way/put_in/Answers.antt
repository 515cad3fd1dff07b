use Rattle.std.specs.Prelude.{[]}
use Rattle.conn_migrate.proofs.Halves.{moved, puts}
use Rattle.conn_migrate.proofs.OwnMarks.{knows_in, next_in}
use Rattle.shard_rings.proofs.way.put_in.Goals as goal

pub put_block-requires : goal.put_block-requires
put_block-requires g c =
    (c.args.way.now.squeue.now, puts c.synch_enter-owner.ensures.came c.synch_enter-owner.ensures.owner c.synch_enter-owner.ensures.no_act c.requires.may c.requires.part)

pub synch_exit-requires : goal.synch_exit-requires
synch_exit-requires g c =
    (c.put_block.ensures.put c.args.way.now.squeue.now [] (puts c.synch_enter-owner.ensures.came c.synch_enter-owner.ensures.owner c.synch_enter-owner.ensures.no_act c.requires.may c.requires.part) c.requires.new).stands_at

pub returns-clause-moved : goal.returns-clause-moved
returns-clause-moved g c =
    let put = c.put_block.ensures.put c.args.way.now.squeue.now [] (puts c.synch_enter-owner.ensures.came c.synch_enter-owner.ensures.owner c.synch_enter-owner.ensures.no_act c.requires.may c.requires.part) c.requires.new in
    moved c.synch_enter-owner.result c.put_block.new.owner c.synch_enter-owner.ensures.came c.put_block.ensures.pass put.stands_at.left put.act c.synch_exit.ensures.goes_on c.synch_exit.ensures.idle c.synch_exit.ensures.left

pub returns-clause-learns : goal.returns-clause-learns
returns-clause-learns g c =
    let put = c.put_block.ensures.put c.args.way.now.squeue.now [] (puts c.synch_enter-owner.ensures.came c.synch_enter-owner.ensures.owner c.synch_enter-owner.ensures.no_act c.requires.may c.requires.part) c.requires.new in
    knows_in c.requires.may.may_ask.pass c.requires.may.ring
    (moved c.synch_enter-owner.result c.put_block.new.owner c.synch_enter-owner.ensures.came c.put_block.ensures.pass put.stands_at.left put.act c.synch_exit.ensures.goes_on c.synch_exit.ensures.idle c.synch_exit.ensures.left)

pub returns-clause-next : goal.returns-clause-next
returns-clause-next g c =
    let put = c.put_block.ensures.put c.args.way.now.squeue.now [] (puts c.synch_enter-owner.ensures.came c.synch_enter-owner.ensures.owner c.synch_enter-owner.ensures.no_act c.requires.may c.requires.part) c.requires.new in
    next_in c.requires.may.may_ask.pass c.requires.may.ring
    (moved c.synch_enter-owner.result c.put_block.new.owner c.synch_enter-owner.ensures.came c.put_block.ensures.pass put.stands_at.left put.act c.synch_exit.ensures.goes_on c.synch_exit.ensures.idle c.synch_exit.ensures.left)
