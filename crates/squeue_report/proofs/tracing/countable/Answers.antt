use Rattle.std.proofs.Common.{rules, arith, ◌≡◌, ◌≤◌, true, length}
use Rattle.squeue_report.specs.Countable.{IsCountable}
use Rattle.squeue_report.proofs.Elements.{of_all, one_more}
use Rattle.squeue_report.proofs.tracing.countable.Goals as goal

pub loop-q-preserved : goal.loop-q-preserved
loop-q-preserved c =
    let is : c.is_countable.result ≡ true = search rules in
    one_more IsCountable c.args.served.now.traces c.loop-q.q c.trace.result.now c.loop-q.invariant c.trace.ensures (c.is_countable.ensures is)

pub returns : goal.returns
returns c =
    let past : length c.args.served.now.traces ≤ c.loop-q.q = omega (arith, c.requires, c.loop-q-test.false) in
    of_all IsCountable c.args.served.now.traces c.loop-q.q past c.loop-q.invariant
