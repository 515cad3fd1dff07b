use Rattle.std.proofs.Common.{◌≡◌, [], length}
use Rattle.turn_gate.specs.Passes.{number}
use Rattle.placed_parts.specs.Placing.{limits_of, origin_of}
use Rattle.live_chats.specs.Accounts.{SeatsWereTold}
use Rattle.live_chats.specs.Seating.{HasSeats}
use Rattle.live_chats.proofs.seats.leave_all.Given as goal

abbrev pub invariant-leaving : goal.invariant-leaving
invariant-leaving g l =
    record {
      seats : HasSeats limits_of l.line.squeue.now (origin_of l.line.squeue.now.given.first) l.pass l.stays l.seats.entries;
      number : number l.pass ≡ number l.fn.pass;
      told : SeatsWereTold limits_of l.line.squeue.now l.fn.pass l.pass l.fn.stays l.stays l.fn.seats.entries l.seats.entries [];
    }

abbrev pub decreases-leaving : goal.decreases-leaving
decreases-leaving g l = length l.seats.entries
