use Rattle.std.proofs.Common.{◌≡◌, ◌+◌, [], arith, cond, refl, subst, sym, take}
use Rattle.std.proofs.KnownBytes.{Appends-nil}
use Rattle.sq_base.specs.Ends.{end_of}
use Rattle.live_run.proofs.EachLemmas.{each_more, few_more, lost_none, lost_one}
use Rattle.live_run.specs.Rounds.{WritesEach}
use Rattle.live_run.proofs.device.write_each.Goals.{then-not-whole, else-not-whole}
use Rattle.live_run.proofs.device.write_each.Goals as goal

pub loop-datagram-init : goal.loop-datagram-init
loop-datagram-init g c = record {
  few = omega arith;
  never_falls = omega arith;
  each = ([], refl, Appends-nil _);
}

pub loop-datagram-preserved : goal.loop-datagram-preserved
loop-datagram-preserved g c =
    let so_far = c.loop-datagram.invariant in
    let one = c.write_one-whole.ensures in
    let contents = g.K.Sink.contents in
    let faults = g.K.Sink.write_faults in
    let lost : c.if-not-whole.lost ≡ c.loop-datagram.lost + cond c.write_one-whole.result 0 1 =
    elim c.if-not-whole.branch [
      | then-not-whole w ↦ lost_one c.write_one-whole.result c.loop-datagram.lost c.if-not-whole.lost w.if-not-whole.true w.lost-is
      | else-not-whole w ↦ lost_none c.write_one-whole.result c.loop-datagram.lost c.if-not-whole.lost w.if-not-whole.false w.lost-is
    ] in
    record {
      few = few_more c.write_one-whole.result c.loop-datagram.lost c.if-not-whole.lost c.loop-datagram.datagram-index lost so_far.few;
      never_falls = omega (arith, so_far.never_falls, one.never_falls);
      each = subst (WritesEach (end_of contents faults c.args.device.now c.write_one-whole.new.device) (take (c.loop-datagram.datagram-index + 1) c.args.sent.now)) (sym lost)
          (each_more (contents c.args.device.now) (contents c.loop-datagram.device) (contents c.write_one-whole.new.device)
          (faults c.args.device.now) (faults c.loop-datagram.device) (faults c.write_one-whole.new.device) so_far.never_falls one.never_falls
          c.args.sent.now c.loop-datagram.datagram-index c.datagram-item.result c.loop-datagram.lost (cond c.write_one-whole.result 0 1)
          c.loop-datagram-test.true c.datagram-item.is so_far.each one.written);
    }
