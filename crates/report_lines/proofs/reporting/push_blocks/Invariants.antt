use Rattle.std.proofs.Common.{◌≡◌, ◌≤◌, drop, vec_capacity}
use Rattle.segment_codec.specs.Datagrams.{most_datagram}
use Rattle.text_digits.specs.Told.{more}
use Rattle.conn_blocks.specs.ServedBlocks.{blocks_in}
use Rattle.report_lines.proofs.Blocks.{blocks_text}
use Rattle.report_lines.proofs.reporting.push_blocks.Given as goal

-- what is written, with what is to be written
abbrev pub invariant-loop-c : goal.invariant-loop-c
invariant-loop-c g l =
    record {
      text : more (g.T.TextEnd.told l.text) (blocks_text l.plan l.c (drop l.c l.plan.tuples) (drop l.c (blocks_in l.blocks)))
          ≡ more (g.T.TextEnd.told l.initial.text) (blocks_text l.plan 0 l.plan.tuples (blocks_in l.blocks));
      room : most_datagram ≤ vec_capacity l.datagram;
    }
