use Rattle.std.proofs.Common.{◌≡◌, ◌↔◌, drop}
use Rattle.squeue_replay.specs.Entering.{Queues}
use Rattle.squeue_replay.specs.Replaying.{setting_of, squeue_of}
use Rattle.squeue_replay.specs.Standing.{SqueueOf}
use Rattle.squeue_replay.proofs.squeue.ReplayedSqueue.queue.Given as goal

abbrev pub invariant-loop-feed : goal.invariant-loop-feed
invariant-loop-feed l = record {
  run : l.self.run ≡ l.initial.self.run;
  number : l.self.number ≡ l.initial.self.number;
  rest : (t : SqueueOf) → Queues (setting_of l.initial.self) l.p (drop l.feed-index l.feeds) (squeue_of l.self) t ↔ Queues (setting_of l.initial.self) l.p l.feeds (squeue_of l.initial.self) t;
}
