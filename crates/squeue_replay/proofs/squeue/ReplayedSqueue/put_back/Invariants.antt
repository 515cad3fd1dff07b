use Rattle.std.proofs.Common.{◌≡◌, ◌++◌, length}
use Rattle.squeue_replay.specs.Replaying.{squeue_of}
use Rattle.squeue_replay.proofs.squeue.ReplayedSqueue.put_back.Given as goal

abbrev pub invariant-loop-entry : goal.invariant-loop-entry
invariant-loop-entry l =
    record {
      run : l.self.run ≡ l.initial.self.run;
      number : l.self.number ≡ l.initial.self.number;
      others : squeue_of l.self ≡ record (squeue_of l.initial.self) { chain = l.self.chain.items; hand = l.self.hand.items };
      all : l.self.hand.items ++ l.self.chain.items ≡ l.initial.self.hand.items ++ l.initial.self.chain.items;
    }

abbrev pub decreases-loop-entry : goal.decreases-loop-entry
decreases-loop-entry l = length l.self.chain.items
