use Rattle.std.proofs.Common.{◌-◌, length, take, drop, ◌∙◌}
use Rattle.squeue_report.specs.SummaryText.{check_behind}
use Rattle.squeue_report.proofs.CheckValues.{four_at}
use Rattle.squeue_report.proofs.checking.check_behind.Goals as goal

pub loop-rest-preserved : goal.loop-rest-preserved
loop-rest-preserved c =
    let rest = c.loop-rest.rest.now in
    (λ k. check_behind (c.check_four-check.ensures k) (take (length rest - 4) (drop 4 rest)))
    ∙ four_at c.loop-rest.check rest c.in-len4-up.len_at_least ∙ c.loop-rest.invariant
