use Rattle.std.proofs.Common.{sym}
use Rattle.text_digits.proofs.Joins.{more_none}
use Rattle.report_lines.specs.ReportText.{reply_line}
use Rattle.report_lines.proofs.Lines.{line_more}
use Rattle.report_lines.proofs.reporting.push_replies.Goals as goal

pub loop-i-init : goal.loop-i-init
loop-i-init g c = record { text = sym (more_none _); room = c.requires }

pub loop-i-preserved : goal.loop-i-preserved
loop-i-preserved g c =
    record {
      text = line_more (reply_line c.args.tuple.now) _ _ _ c.args.tcb.now.replies c.loop-i.i c.reply.result.now c.loop-i.invariant.text c.reply.ensures.reply c.in_ok-push_reply.ensures.text;
      room = c.push_reply.ensures.room;
    }
