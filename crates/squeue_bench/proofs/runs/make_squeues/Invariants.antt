use Rattle.std.proofs.Common.{◌≡◌, ◌≤◌, length}
use Rattle.std.specs.Prelude.{vec_capacity}
use Rattle.key_counters.specs.AsResident.{limits_of}
use Rattle.squeue_bench.specs.Places.{AtEach, IsWorker}
use Rattle.squeue_bench.specs.Runs.{AreReady, HavePasses}
use Rattle.squeue_bench.proofs.runs.make_squeues.Given as goal

abbrev pub invariant-loop-q : goal.invariant-loop-q
invariant-loop-q l =
    record {
      rings : length l.rings ≡ length l.initial.rings;
      ready : AreReady limits_of l.bound l.items l.wanted l.squeues.items l.rings;
      squeues : length l.squeues.items ≡ l.q;
      passes : HavePasses (length l.initial.rings) l.squeues.items;
      workers : AtEach IsWorker l.squeues.items l.workers.items;
      room : l.wanted ≤ vec_capacity l.squeues;
      room_too : l.wanted ≤ vec_capacity l.workers;
    }
