use Rattle.std.proofs.Common.{◌%◌, ◌==◌}
use Rattle.squeue_replay.specs.Entering.{first_guest}
use Rattle.squeue_replay.proofs.Making.{one_guest_more}
use Rattle.squeue_replay.proofs.squeue.ReplayedSqueue.guests_of.Goals as goal

pub loop-c-preserved : goal.loop-c-preserved
loop-c-preserved c =
    one_guest_more (λ d. first_guest (d % c.args.squeues == c.args.number)) c.loop-c.guests.items c.push.new.self.items c.in_ok-make.field-0 c.loop-c.c
    c.loop-c.invariant c.in_ok-push.ensures.items c.in_ok-make.ensures
