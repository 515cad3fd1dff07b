use Rattle.std.proofs.Common.{rules, arith, ◌≡◌, ◌≤◌, ◌<◌, true, length}
use Rattle.squeue_report.specs.Countable.{HasEnd}
use Rattle.squeue_report.proofs.Elements.{of_all, one_more}
use Rattle.squeue_report.proofs.Marked.{there}
use Rattle.squeue_report.proofs.tracing.is_countable.Goals as goal

pub loop-i-preserved : goal.loop-i-preserved
loop-i-preserved c =
    let marks = c.args.trace.now.marks in
    let within : c.loop-i.i < length marks = omega (arith, c.loop-i-test.true, c.len-i-end.ensures) in
    let ends : c.has_end.result ≡ true = search rules in
    one_more HasEnd marks c.loop-i.i c.mark.result c.loop-i.invariant (there marks c.loop-i.i c.mark.result within c.mark.ensures.mark) (c.has_end.ensures ends)

pub returns : goal.returns
returns c = λ _.
    let marks = c.args.trace.now.marks in
    let past : length marks ≤ c.loop-i.i = omega (arith, c.loop-i-test.false, c.len-i-end.ensures) in
    of_all HasEnd marks c.loop-i.i past c.loop-i.invariant
