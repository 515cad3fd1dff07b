use Rattle.std.proofs.Common.{◌≡◌, [], ◌∷◌, ◌++◌, length}
use Rattle.std.specs.Prelude.{vec_capacity}
use Rattle.gate_trial.specs.Counted.{AreFrom}
use Rattle.histories.specs.Elements.{number_of}
use Rattle.squeue_bench.specs.Places.{AtEach, HasPass}
use Rattle.squeue_bench.proofs.Places.{Halfway}
use Rattle.squeue_bench.proofs.runs.gather.Given as goal

abbrev pub invariant-loop-k : goal.invariant-loop-k
invariant-loop-k g l =
    record {
      rings : length l.rings ≡ length l.initial.rings;
      so_far : length l.room.items ≡ l.k;
      passes : AreFrom number_of l.squeue.gate 0 l.room.items;
      left : Halfway (λ k ring. AtEach (HasPass k) (l.squeues ++ l.squeue ∷ []) ring.passes.items) (λ k ring. AtEach (HasPass k) l.squeues ring.passes.items) l.k l.rings;
      capacity : vec_capacity l.room ≡ vec_capacity l.initial.room;
    }
