use Rattle.std.proofs.Common.{ap, ◌+◌}
use Rattle.report_lines.proofs.OrderTexts.{long_run, short_run}
use Rattle.report_lines.proofs.reporting.push_run.Goals as goal
use Rattle.report_lines.proofs.reporting.push_run.Goals.{then-run-gt0+in_ok-push_field-2, else-run-gt0}

pub returns-clause-run : goal.returns-clause-run
returns-clause-run g c =
    let n = c.args.n in
    let run = c.run_length-run.ensures.run in
    elim c.if-run-gt0.branch [
      | then-run-gt0+in_ok-push_field-2 w ↦
          long_run n c.run_length-run.result c.args.behind.now _ _ _ run c.split_at.ensures.back c.in_ok-push_field.ensures _ _ _
          w.if-run-gt0.true (ap (λ k. k + c.run_length-run.result) w.from.ensures) w.in_ok-push_field-2.ensures (ap g.T.TextEnd.told w.text-is)
      | else-run-gt0 w ↦
          short_run n c.run_length-run.result c.args.behind.now _ _ _ run c.split_at.ensures.back c.in_ok-push_field.ensures _
          w.if-run-gt0.false (ap g.T.TextEnd.told w.text-is)
    ]
