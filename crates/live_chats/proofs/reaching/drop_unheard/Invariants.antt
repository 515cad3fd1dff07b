use Rattle.std.proofs.Common.{◌≡◌, ℕ, ◌-◌, ◌≤◌, Some, length, slice_get}
use Rattle.sq_base.specs.declared.kinds.Tuple.{Tuple}
use Rattle.turn_gate.specs.Passes.{number}
use Rattle.placed_parts.specs.Placing.{limits_of, origin_of}
use Rattle.live_chats.specs.Seating.{HasHeardSeats, conn_of_seat}
use Rattle.live_chats.specs.declared.seat.Seat.{Seat}
use Rattle.live_chats.proofs.reaching.drop_unheard.Given as goal

abbrev pub invariant-loop-n : goal.invariant-loop-n
invariant-loop-n g l =
    record {
      seats : HasHeardSeats limits_of l.line.squeue.now (origin_of l.line.squeue.now.given.first) l.heard (length l.heard - l.n) l.pass l.stays l.seats.entries;
      number : number l.pass ≡ number l.fn.pass;
      were : (k : ℕ) (e : Tuple × Seat) → slice_get l.seats.entries k ≡ Some e
          → (j : ℕ) × (f : Tuple × Seat) × (slice_get l.fn.seats.entries j ≡ Some f) × (conn_of_seat l.stays e ≡ conn_of_seat l.fn.stays f);
      count : length l.heard - l.n ≤ length l.seats.entries;
      all : l.n-end ≡ length l.heard;
    }
