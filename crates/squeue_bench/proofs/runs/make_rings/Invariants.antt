use Rattle.std.proofs.Common.{◌≡◌, ◌≤◌, [], length}
use Rattle.std.specs.Prelude.{vec_capacity}
use Rattle.key_counters.specs.AsResident.{limits_of}
use Rattle.squeue_bench.specs.Runs.{AreReady}
use Rattle.squeue_bench.proofs.runs.make_rings.Given as goal

abbrev pub invariant-loop-k : goal.invariant-loop-k
invariant-loop-k l = record { so_far : length l.all.items ≡ l.k; room : l.rings ≤ vec_capacity l.all; ready : AreReady limits_of l.bound l.items l.squeues [] l.all.items }
