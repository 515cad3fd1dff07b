use Rattle.std.proofs.Common.{sym}
use Rattle.conn_blocks.specs.CallLists.{calls_of}
use Rattle.report_lines.specs.TraceText.{call_line}
use Rattle.report_lines.proofs.Lines.{line_more}
use Rattle.text_digits.proofs.Joins.{more_none}
use Rattle.squeue_report.proofs.tracing.push_thread.Goals as goal

pub loop-k-init : goal.loop-k-init
loop-k-init g c = sym (more_none _)

pub loop-k-preserved : goal.loop-k-preserved
loop-k-preserved g c =
    line_more (call_line c.args.j) _ _ _ (calls_of c.args.calls.now c.args.j) c.loop-k.k c.get-c.result c.loop-k.invariant c.get-c.ensures c.in_ok-push_call.ensures
