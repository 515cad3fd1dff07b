use Rattle.std.proofs.Common.{◌≡◌, ◌<◌, map, refl}
use Rattle.std.specs.Prelude.{slice_index}
use Rattle.squeue_replay.specs.Replaying.{setting_of}
use Rattle.squeue_replay.specs.Standing.{GuestOf, guest_of}
use Rattle.squeue_replay.proofs.MayActs.{both_of, ring_low}
use Rattle.squeue_replay.proofs.squeue.ReplayedSqueue.may_take_out.Goals as goal

pub returns : goal.returns
returns c =
    let s = c.args.self.now in (
      λ h. (
        ring_low s.run.plan.now s.run.calls.now s.run.setup.squeues s.run.setup.rings s.run.setup.spread s.number c.args.p c.args.c s.run.range.rings.0 c.if-p-c.false,
        c.if-p-c.false,
        both_of (map guest_of s.guests.items) c.args.c (λ (g : GuestOf). g.left < slice_index (setting_of s).limits.leaves c.args.c) (λ (g : GuestOf). g.queued ≡ 0) (c.if-not-is_here.ensures.0 refl) (c.may_go.ensures.0 h),
      ),
      λ a. c.may_go.ensures.1 (a.2.0, a.2.1, (a.2.2.1, a.2.2.2)),
    )
