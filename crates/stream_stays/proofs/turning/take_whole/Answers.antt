use Rattle.std.proofs.Common.{◌∙◌, ap, subst}
use Rattle.placed_parts.specs.Placing.{origin_of}
use Rattle.conn_migrate.proofs.Halves.{moved, takes}
use Rattle.conn_migrate.proofs.NextFeeds.{fed_is_due}
use Rattle.conn_migrate.proofs.OwnMarks.{knows_out, next_out}
use Rattle.squeue_streams.specs.Taking.{HasTakenMore, steps_of}
use Rattle.stream_stays.proofs.Rings.{its_pair}
use Rattle.stream_stays.proofs.turning.take_whole.Goals as goal

pub take_block-part-requires : goal.take_block-part-requires
take_block-part-requires g c = (c.args.sq.now, takes c.synch_enter-owner.ensures.came c.synch_enter-owner.ensures.owner c.synch_enter-owner.ensures.no_act c.requires.may)

pub take_rest-requires : goal.take_rest-requires
take_rest-requires g c =
    let taken = c.take_block-part.ensures.taken c.args.sq.now (takes c.synch_enter-owner.ensures.came c.synch_enter-owner.ensures.owner c.synch_enter-owner.ensures.no_act c.requires.may) in
    its_pair g.X.Steps.begins g.X.Steps.step (origin_of c.args.sq.now.given.first) c.args.c c.take_block-part.result taken.part_of c.args.producer.now c.requires.ring

pub synch_exit-requires : goal.synch_exit-requires
synch_exit-requires g c =
    (c.take_block-part.ensures.taken c.args.sq.now (takes c.synch_enter-owner.ensures.came c.synch_enter-owner.ensures.owner c.synch_enter-owner.ensures.no_act c.requires.may)).stands_at

pub returns-clause-moved : goal.returns-clause-moved
returns-clause-moved g c =
    let taken = c.take_block-part.ensures.taken c.args.sq.now (takes c.synch_enter-owner.ensures.came c.synch_enter-owner.ensures.owner c.synch_enter-owner.ensures.no_act c.requires.may) in
    moved c.synch_enter-owner.result c.take_block-part.new.owner c.synch_enter-owner.ensures.came c.take_block-part.ensures.pass taken.stands_at.left taken.act c.synch_exit.ensures.goes_on c.synch_exit.ensures.idle c.synch_exit.ensures.left

pub returns-clause-learns : goal.returns-clause-learns
returns-clause-learns g c =
    let taken = c.take_block-part.ensures.taken c.args.sq.now (takes c.synch_enter-owner.ensures.came c.synch_enter-owner.ensures.owner c.synch_enter-owner.ensures.no_act c.requires.may) in
    knows_out c.requires.may.may_ask.pass c.requires.may.ring
    (moved c.synch_enter-owner.result c.take_block-part.new.owner c.synch_enter-owner.ensures.came c.take_block-part.ensures.pass taken.stands_at.left taken.act c.synch_exit.ensures.goes_on c.synch_exit.ensures.idle c.synch_exit.ensures.left)

pub returns-clause-all : goal.returns-clause-all
returns-clause-all g c =
    let taken = c.take_block-part.ensures.taken c.args.sq.now (takes c.synch_enter-owner.ensures.came c.synch_enter-owner.ensures.owner c.synch_enter-owner.ensures.no_act c.requires.may) in
    let out =
    moved c.synch_enter-owner.result c.take_block-part.new.owner c.synch_enter-owner.ensures.came c.take_block-part.ensures.pass taken.stands_at.left taken.act c.synch_exit.ensures.goes_on c.synch_exit.ensures.idle c.synch_exit.ensures.left in
    fed_is_due out ∙ next_out c.requires.may.may_ask.pass c.requires.may.ring out

pub returns-clause-part : goal.returns-clause-part
returns-clause-part g c =
    let taken = c.take_block-part.ensures.taken c.args.sq.now (takes c.synch_enter-owner.ensures.came c.synch_enter-owner.ensures.owner c.synch_enter-owner.ensures.no_act c.requires.may) in
    let o = origin_of c.args.sq.now.given.first in
    let more : HasTakenMore g.X.Steps.begins g.X.Steps.step o c.take_block-part.result c.take_rest.new.stream =
    subst (λ x. HasTakenMore g.X.Steps.begins g.X.Steps.step x c.take_block-part.result c.take_rest.new.stream) (ap (λ r. g.X.Steps.origin (steps_of r)) c.shared.ensures ∙ taken.stands_at.owns.resident.same_origin) c.take_rest.ensures.taken in
    more.its c.args.c taken.part_of
