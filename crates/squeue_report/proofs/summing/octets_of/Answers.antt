use Rattle.std.proofs.Common.{◌+◌, ap, length, arith}
use Rattle.squeue_report.proofs.Sums.{sum_more}
use Rattle.squeue_report.proofs.summing.octets_of.Goals as goal

pub loop-i-preserved : goal.loop-i-preserved
loop-i-preserved c =
    let size = ap length c.as_slice.ensures in
    record {
      value = sum_more (λ r. length r.text) c.args.tcb.now.replies c.loop-i.i _ _ c.reply.result.now c.loop-i.invariant.value c.reply.ensures.reply
          (ap (λ n. c.loop-i.octets + n) size);
      few = omega (arith, c.loop-i.invariant.few, c.reply.ensures.ours, size);
    }
