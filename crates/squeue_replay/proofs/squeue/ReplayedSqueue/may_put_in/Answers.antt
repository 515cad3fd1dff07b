use Rattle.std.proofs.Common.{◌<◌, length, map, arith}
use Rattle.std.proofs.lemmas.List.{length-map}
use Rattle.squeue_replay.specs.Standing.{guest_of}
use Rattle.squeue_replay.proofs.MayActs.{is_away, ring_low}
use Rattle.squeue_replay.proofs.squeue.ReplayedSqueue.may_put_in.Goals as goal

pub returns : goal.returns
returns c =
    let s = c.args.self.now in
    let n = length-map s.guests.items guest_of in
    let lt : c.args.c < length (map guest_of s.guests.items) = omega (arith, c.if-c-conns.false, c.conns.ensures.value, s.each_guest, n) in
    let away = is_away (map guest_of s.guests.items) c.args.c c.is_here.result lt c.is_here.ensures.0 c.is_here.ensures.1 in (
      λ h. (ring_low s.run.plan.now s.run.calls.now s.run.setup.squeues s.run.setup.rings s.run.setup.spread s.number c.args.p c.args.c s.run.range.rings.0 c.if-p-c.false, c.if-p-c.false, away.0 h),
      λ a. away.1 a.2,
    )
