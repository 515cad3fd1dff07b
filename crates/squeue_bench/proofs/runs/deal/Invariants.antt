use Rattle.std.proofs.Common.{◌≡◌, ◌≤◌, [], ◌∷◌, ◌++◌, length}
use Rattle.std.specs.Prelude.{vec_capacity}
use Rattle.turn_gate.specs.Passes.{AreFresh}
use Rattle.histories.specs.Elements.{number_of}
use Rattle.squeue_bench.specs.Runs.{IsReady}
use Rattle.squeue_bench.proofs.Places.{Halfway}
use Rattle.squeue_bench.proofs.runs.deal.Given as goal

abbrev pub invariant-loop-pass : goal.invariant-loop-pass
invariant-loop-pass g l =
    record {
      rings : length l.rings ≡ length l.initial.rings;
      fresh : AreFresh number_of l.squeue.gate 0 l.passes.items;
      some : length l.passes.items ≤ length l.rings;
      dealt : Halfway (IsReady g.R.Resident.limits l.bound l.items l.wanted (l.squeues ++ l.squeue ∷ [])) (IsReady g.R.Resident.limits l.bound l.items l.wanted l.squeues) (length l.passes.items) l.rings;
      room : vec_capacity l.passes ≡ vec_capacity l.initial.passes;
    }

abbrev pub decreases-loop-pass : goal.decreases-loop-pass
decreases-loop-pass g l = length l.passes.items
