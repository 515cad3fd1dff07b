use Rattle.std.proofs.Common.{◌≡◌, ℕ, ◌+◌, ◌<◌, None, map}
use Rattle.squeue_replay.specs.Standing.{guest_of}
use Rattle.trace_replay.specs.Joining.{did_in}
use Rattle.trace_replay.proofs.orders.is_last.Given as goal

abbrev pub invariant-loop-ahead : goal.invariant-loop-ahead
invariant-loop-ahead l = (s : ℕ) → l.stay < s → s < l.stay + l.ahead → did_in l.run.setup.squeues (map (λ gs. map guest_of gs.items) l.guests) l.c s ≡ None
