use Rattle.std.proofs.Common.{drop}
use Rattle.squeue_run.proofs.Missing.{Decides}
use Rattle.squeue_run.proofs.run.missing.Given as goal

abbrev pub invariant-loop-word : goal.invariant-loop-word
invariant-loop-word l = Decides l.conns l.named (drop l.word-index l.named)
