use Rattle.std.proofs.Common.{◌≡◌, ◌≤◌, length, arith, ap, ◌∙◌}
use Rattle.text_digits.specs.Told.{more}
use Rattle.conn_blocks.specs.ServeOrder.{serving_of}
use Rattle.conn_blocks.specs.Services.{service_in}
use Rattle.report_lines.specs.ReportText.{conn_text, counts_line}
use Rattle.report_lines.proofs.Blocks.{block_more, blocks_end}
use Rattle.squeue_report.proofs.WholeTexts.{body_told}
use Rattle.squeue_report.proofs.reporting.push_body.Goals as goal

pub loop-c-preserved : goal.loop-c-preserved
loop-c-preserved g c =
    let plan = c.args.plan.now in
    let n = c.loop-c.c in
    let b = c.block.result.now in
    let service : c.service_in-service.result ≡ service_in plan n = c.service_in-service.ensures ∙ ap (λ p. service_in p n) c.view.ensures in
    let told = c.in_ok-push_conn.ensures.text ∙ (λ k. more (g.T.TextEnd.told c.loop-c.text) (conn_text n c.tuple.result (service k) b.order (serving_of b))) in
    record {
      text = block_more plan plan.tuples c.args.served.now.blocks _ _ _ n c.tuple.result b c.loop-c.invariant.text c.tuple.ensures.value c.block.ensures told;
      room = c.push_conn.ensures.room;
    }

pub returns : goal.returns
returns g c =
    let past : length c.args.plan.now.tuples ≤ c.loop-c.c = omega (arith, c.conns-c-end.ensures.value, c.loop-c-test.false) in
    body_told c.args.plan.now c.args.served.now.blocks _ _ _
    (c.in_ok-push_counts.ensures ∙ (λ k. more (g.T.TextEnd.told c.args.text.now) (counts_line (c.counts.ensures k) (c.conns.ensures.value k))))
    (blocks_end c.args.plan.now c.args.plan.now.tuples c.args.served.now.blocks _ _ c.loop-c.c past c.loop-c.invariant.text)
