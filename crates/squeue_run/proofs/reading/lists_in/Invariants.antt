use Rattle.std.proofs.Common.{◌≡◌, take}
use Rattle.squeue_run.specs.CallWords.{lists_of}
use Rattle.squeue_run.proofs.reading.lists_in.Given as goal

abbrev pub invariant-loop-word : goal.invariant-loop-word
invariant-loop-word l = l.calls ≡ lists_of (take l.word-index l.named)
