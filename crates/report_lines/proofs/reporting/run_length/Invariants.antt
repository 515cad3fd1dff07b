use Rattle.std.proofs.Common.{◌≡◌, ◌+◌, drop}
use Rattle.report_lines.proofs.Runs.{lead}
use Rattle.report_lines.proofs.reporting.run_length.Given as goal

abbrev pub invariant-loop-act : goal.invariant-loop-act
invariant-loop-act l = record {
  counted : l.count ≡ l.act-index;
  last : l.last ≡ l.n + l.count;
  lead : lead l.n l.acts ≡ l.count + lead l.last (drop l.act-index l.acts);
}
