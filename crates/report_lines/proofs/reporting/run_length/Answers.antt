use Rattle.report_lines.proofs.Runs.{ends_at_feed, ends_at_call, ends_at_end}
use Rattle.std.proofs.Common.{◌∙◌, ◌≡◌}
use Rattle.report_lines.proofs.reporting.run_length.Goals as goal

pub returns-in_default-clause-run : goal.returns-in_default-clause-run
returns-in_default-clause-run c =
    let i = c.loop-act.invariant in
    let read : c.from.result ≡ c.in-Feed.n = c.from.ensures in
    ends_at_feed c.args.n c.loop-act.last c.loop-act.count c.loop-act.act-index c.in-Feed.n c.args.acts.now _ i.counted i.lead c.loop-act-test.true c.in-Feed.is
    (λ e. c.if-from-last.false (read ∙ e))

pub returns-in_default-2-clause-run : goal.returns-in_default-2-clause-run
returns-in_default-2-clause-run c =
    let i = c.loop-act.invariant in
    ends_at_call c.args.n c.loop-act.last c.loop-act.count c.loop-act.act-index _ _ c.args.acts.now _ i.counted i.lead c.loop-act-test.true c.in_default.is

pub returns-clause-run : goal.returns-clause-run
returns-clause-run c =
    let i = c.loop-act.invariant in
    ends_at_end c.args.n c.loop-act.last c.loop-act.count c.loop-act.act-index c.args.acts.now i.counted i.lead c.loop-act-test.false
