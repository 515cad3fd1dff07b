use Rattle.std.proofs.Common.{◌≡◌, ◌%◌, ◌==◌, map}
use Rattle.std.specs.List.{range_with_len}
use Rattle.squeue_replay.specs.Entering.{first_guest}
use Rattle.squeue_replay.specs.Standing.{guest_of}
use Rattle.squeue_replay.proofs.squeue.ReplayedSqueue.guests_of.Given as goal

abbrev pub invariant-loop-c : goal.invariant-loop-c
invariant-loop-c l = map guest_of l.guests.items ≡ map (λ c. first_guest (c % l.squeues == l.number)) (range_with_len 0 l.c)
