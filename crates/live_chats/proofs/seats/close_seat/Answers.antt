use Rattle.std.proofs.Common.{sym, subst}
use Rattle.sq_base.specs.declared.kinds.Tuple.{Tuple}
use Rattle.turn_gate.specs.Passes.{number, seen}
use Rattle.placed_parts.specs.Placing.{limits_of}
use Rattle.squeue_state.specs.Naming.{setting_of}
use Rattle.live_chats.specs.Accounts.{HasEndedStay, pushed_at}
use Rattle.live_chats.specs.Seating.{KeptBut}
use Rattle.live_chats.specs.declared.seat.Seat.{Seat}
use Rattle.live_chats.proofs.SeatLemmas.{same_entry}
use Rattle.live_chats.proofs.seats.close_seat.Goals as goal

pub close-requires-clause-place : goal.close-requires-clause-place
close-requires-clause-place g c = c.requires.place (c.seat_at-seat.ensures.0, c.seat_at-seat.result) c.seat_at-seat.ensures.1

pub returns-clause-others : goal.returns-clause-others
returns-clause-others g c = λ e at.
    let same = same_entry c.args.seats.now.entries c.args.i (c.seat_at-seat.ensures.0, c.seat_at-seat.result) e c.seat_at-seat.ensures.1 at in
    subst (λ (x : Tuple × Seat). KeptBut x.1.place c.args.stays.now c.close.new.stays) (sym same) c.close.ensures.others

pub returns-clause-ended : goal.returns-clause-ended
returns-clause-ended g c = λ e at.
    let s = c.args.line.now.squeue.now in
    let same = same_entry c.args.seats.now.entries c.args.i (c.seat_at-seat.ensures.0, c.seat_at-seat.result) e c.seat_at-seat.ensures.1 at in
    subst (λ (x : Tuple × Seat). HasEndedStay (setting_of limits_of s.given) (number c.args.pass) (seen c.args.pass) (seen c.close.result) (pushed_at c.args.stays.now x.1.place))
    (sym same) c.close.ensures.ended
