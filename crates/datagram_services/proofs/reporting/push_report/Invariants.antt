use Rattle.std.proofs.Common.{◌≡◌, ◌≤◌, vec_capacity}
use Rattle.segment_codec.specs.Datagrams.{most_datagram}
use Rattle.text_digits.specs.Told.{more}
use Rattle.datagram_services.proofs.StreamTexts.{streams_text}
use Rattle.datagram_services.proofs.reporting.push_report.Given as goal

-- what is written, with what is to be written
abbrev pub invariant-loop-c : goal.invariant-loop-c
invariant-loop-c g l =
    record {
      text : more (g.T.TextEnd.told l.text) (streams_text l.plan l.c) ≡ more (g.T.TextEnd.told l.initial.text) (streams_text l.plan 0);
      room : most_datagram ≤ vec_capacity l.datagram;
    }
