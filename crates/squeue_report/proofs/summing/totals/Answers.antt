use Rattle.std.proofs.Common.{◌+◌, ap, ◌∙◌, arith, length}
use Rattle.squeue_report.specs.SummaryText.{text_size}
use Rattle.squeue_report.proofs.Sums.{sum_more}
use Rattle.squeue_report.proofs.summing.totals.Goals as goal

pub loop-c-preserved : goal.loop-c-preserved
loop-c-preserved c =
    let i = c.loop-c.invariant in
    record {
      replies = sum_more (λ b. length b.tcb.replies) c.args.served.now.blocks c.loop-c.c _ _ c.block.result.now i.replies c.block.ensures
          (ap (λ n. c.loop-c.replies + n) (c.replies.ensures ∙ ap (λ t. length t.replies) c.tcb-tcb.ensures));
      octets = sum_more (λ b. text_size b.tcb.replies) c.args.served.now.blocks c.loop-c.c _ _ c.block.result.now i.octets c.block.ensures
          (ap (λ n. c.loop-c.octets + n) (c.octets_of-octets.ensures.value ∙ ap (λ t. text_size t.replies) c.tcb-tcb.ensures));
      few_replies = omega arith;
      few_octets = omega arith;
    }
