use Rattle.std.proofs.Common.{◌≡◌, [], length}
use Rattle.turn_gate.specs.Passes.{number}
use Rattle.placed_parts.specs.Placing.{limits_of, origin_of}
use Rattle.live_chats.specs.Accounts.{SeatsWereTold}
use Rattle.live_chats.specs.Seating.{HasSeats, conns_of}
use Rattle.live_chats.proofs.renewing.renew_all.Given as goal

abbrev pub invariant-loop-i : goal.invariant-loop-i
invariant-loop-i g l =
    record {
      seats : HasSeats limits_of l.line.squeue.now (origin_of l.line.squeue.now.given.first) l.pass l.stays l.seats.entries;
      number : number l.pass ≡ number l.fn.pass;
      table : conns_of l.stays l.seats.entries ≡ conns_of l.fn.stays l.seats.entries;
      told : SeatsWereTold limits_of l.line.squeue.now l.fn.pass l.pass l.fn.stays l.stays l.seats.entries l.seats.entries [];
      all : l.i-end ≡ length l.seats.entries;
    }
