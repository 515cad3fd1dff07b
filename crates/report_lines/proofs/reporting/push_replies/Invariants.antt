use Rattle.std.proofs.Common.{◌≡◌, ◌≤◌, take, vec_capacity}
use Rattle.std.specs.List.{flat_map}
use Rattle.segment_codec.specs.Datagrams.{most_datagram}
use Rattle.text_digits.specs.Told.{more}
use Rattle.report_lines.specs.ReportText.{reply_line}
use Rattle.report_lines.proofs.reporting.push_replies.Given as goal

abbrev pub invariant-loop-i : goal.invariant-loop-i
invariant-loop-i g l =
    record {
      text : g.T.TextEnd.told l.text ≡ more (g.T.TextEnd.told l.initial.text) (flat_map (reply_line l.tuple) (take l.i l.tcb.replies));
      room : most_datagram ≤ vec_capacity l.datagram;
    }
