use Rattle.std.proofs.Transfers.{starts_with_of_append, starts_with_trans}
use Rattle.live_server.specs.Frames.{frame_of}
use Rattle.live_server.proofs.FrameLemmas.{one_more}
use Rattle.live_server.proofs.frames.push_frames.Goals as goal

pub loop-datagram-preserved : goal.loop-datagram-preserved
loop-datagram-preserved c =
    one_more frame_of c.args.sent.now c.loop-datagram.datagram-index c.datagram-item.result _ _ _ c.loop-datagram-test.true c.datagram-item.is c.loop-datagram.invariant c.in_ok-push_frame.ensures.sent

pub returns-in_err-push_frame-clause-stays : goal.returns-in_err-push_frame-clause-stays
returns-in_err-push_frame-clause-stays c =
    starts_with_trans _ c.loop-datagram.out.items c.args.out.now.items c.push_frame.ensures.stays (starts_with_of_append _ c.args.out.now.items _ c.loop-datagram.invariant)

pub returns-clause-stays : goal.returns-clause-stays
returns-clause-stays c = starts_with_of_append _ c.args.out.now.items _ c.loop-datagram.invariant
