use Rattle.std.proofs.Common.{◌≡◌, take}
use Rattle.datagram_services.specs.Fits.{counts_of}
use Rattle.datagram_services.proofs.work.counts_for.Given as goal

abbrev pub invariant-loop-c : goal.invariant-loop-c
invariant-loop-c l = l.counts.items ≡ take l.c (counts_of l.plan)
