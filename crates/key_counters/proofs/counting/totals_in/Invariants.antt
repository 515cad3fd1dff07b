use Rattle.std.proofs.Common.{◌≡◌, map, sum, take}
use Rattle.squeue.specs.ServedParts.{shared_of}
use Rattle.key_counters.specs.Counting.{rows_of}
use Rattle.key_counters.proofs.counting.totals_in.Given as goal

abbrev pub invariant-loop-c : goal.invariant-loop-c
invariant-loop-c l = l.totals.items ≡ map sum (take l.c (rows_of (shared_of l.served)))
