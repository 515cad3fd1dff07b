use Rattle.std.proofs.Common.{◌≡◌, false, take}
use Rattle.squeue_replay.specs.Replaying.{squeue_of}
use Rattle.squeue_replay.specs.Steps.{Processed}
use Rattle.squeue_replay.proofs.squeue.ReplayedSqueue.process.Given as goal

abbrev pub invariant-loop-i : goal.invariant-loop-i
invariant-loop-i l =
    record {
      run : l.self.run ≡ l.initial.self.run;
      number : l.self.number ≡ l.initial.self.number;
      done : Processed (take l.i l.initial.self.hand.items) l.asking l.feeds false (squeue_of l.initial.self) (squeue_of l.self);
    }
