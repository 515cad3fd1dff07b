use Rattle.squeue_rings.proofs.Trying.{may_call, tried}
use Rattle.squeue_rings.proofs.calling.try_with.Goals as goal

pub call-called-requires : goal.call-called-requires
call-called-requires g c =
    (c.args.squeue.now, may_call g.R.Resident c.args.squeue.now c.args.c c.args.j c.args.k c.args.pass c.in-Ok.owner c.requires c.in-Ok.ensures.found c.in-Ok.ensures.came)

pub returns-in-Ok : goal.returns-in-Ok
returns-in-Ok g c =
    let s = c.args.squeue.now in
    let may = may_call g.R.Resident s c.args.c c.args.j c.args.k c.args.pass c.in-Ok.owner c.requires c.in-Ok.ensures.found c.in-Ok.ensures.came in
    let h = c.call-called.ensures.called s may in
    tried g.R.Resident s c.args.c c.args.j c.args.k c.args.pass c.in-Ok.owner c.requires c.in-Ok.ensures.found c.in-Ok.ensures.came c.call-called.new.owner c.synch_exit.result
    c.call-called.ensures.pass c.call-called.ensures.hand c.synch_exit.ensures.goes_on c.synch_exit.ensures.idle c.synch_exit.ensures.left h.stands_at.left c.call-called.result c.was_made.result c.was_made.ensures h
