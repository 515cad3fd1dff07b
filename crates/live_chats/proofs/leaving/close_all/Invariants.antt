use Rattle.std.proofs.Common.{◌≡◌, [], length}
use Rattle.turn_gate.specs.Passes.{number}
use Rattle.placed_parts.specs.Placing.{limits_of, origin_of}
use Rattle.sq_base.specs.declared.kinds.Tuple.{Tuple}
use Rattle.live_chats.specs.Accounts.{SeatsWereTold}
use Rattle.live_chats.specs.Seating.{goes}
use Rattle.live_chats.specs.declared.seat.Seat.{Seat}
use Rattle.live_chats.proofs.ClosingLemmas.{IsClosing, still}
use Rattle.live_chats.proofs.leaving.close_all.Given as goal

abbrev pub invariant-loop-i : goal.invariant-loop-i
invariant-loop-i g l =
    record {
      closing : IsClosing limits_of l.line.squeue.now (origin_of l.line.squeue.now.given.first) (goes l.who) l.pass l.fn.stays l.stays l.i l.seats.entries;
      told : SeatsWereTold limits_of l.line.squeue.now l.fn.pass l.pass l.fn.stays l.fn.stays l.seats.entries
          (still (λ (e : Tuple × Seat). goes l.who e.1.facts) l.i l.seats.entries) [];
      number : number l.pass ≡ number l.fn.pass;
      all : l.i-end ≡ length l.seats.entries;
    }
