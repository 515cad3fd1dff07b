use Rattle.std.proofs.Common.{sym, subst, arith}
use Rattle.std.proofs.lemmas.Option.{slice_get_within}
use Rattle.sq_base.specs.declared.kinds.Tuple.{Tuple}
use Rattle.stream_stays.specs.Places.{IsOpen}
use Rattle.placed_parts.specs.Placing.{limits_of}
use Rattle.live_chats.specs.declared.seat.Seat.{Seat}
use Rattle.live_chats.proofs.SeatLemmas.{left_conns, left_distinct, left_length, left_seated, same_entry, seat_left}
use Rattle.live_chats.proofs.seats.vacate.Goals as goal

pub close_seat-requires-clause-range : goal.close_seat-requires-clause-range
close_seat-requires-clause-range g c = slice_get_within c.args.seats.now.entries c.args.i c.requires.left c.requires.its_place

pub close_seat-requires-clause-place : goal.close_seat-requires-clause-place
close_seat-requires-clause-place g c = λ e at.
    let same = same_entry c.args.seats.now.entries c.args.i c.requires.left e c.requires.its_place at in
    subst (λ (x : Tuple × Seat). IsOpen c.args.stays.now x.1.place) (sym same) c.requires.is_open

pub close_seat-requires-clause-asks : goal.close_seat-requires-clause-asks
close_seat-requires-clause-asks g c = omega (arith, slice_get_within c.args.seats.now.entries c.args.i c.requires.left c.requires.its_place, c.requires.paid)

pub returns-clause-seats : goal.returns-clause-seats
returns-clause-seats g c =
    let es = c.args.seats.now.entries in
    let kept = c.close_seat.ensures.others c.requires.left c.requires.its_place in
    rw c.close_seat.ensures.seats (record {
      settled = c.close_seat.ensures.settled;
      seated = left_seated c.args.stays.now c.close_seat.new.stays es c.args.i c.requires.left c.requires.its_place kept c.requires.ends c.requires.distinct c.requires.seated;
      distinct = left_distinct es c.args.i c.requires.left c.requires.its_place c.requires.distinct;
      paid = omega (arith, left_length es c.args.i c.requires.left c.requires.its_place, c.close_seat.ensures.asks, c.requires.paid);
    })

pub returns-clause-table : goal.returns-clause-table
returns-clause-table g c =
    let kept = c.close_seat.ensures.others c.requires.left c.requires.its_place in
    rw c.close_seat.ensures.seats (left_conns c.args.stays.now c.close_seat.new.stays c.args.seats.now.entries c.args.i c.requires.left c.requires.its_place kept c.requires.ends c.requires.distinct c.requires.seated)

pub returns-clause-told : goal.returns-clause-told
returns-clause-told g c =
    let s = c.args.line.now.squeue.now in
    let es = c.args.seats.now.entries in
    let a = c.args.stays.now in
    let left = c.requires.left in
    rw c.close_seat.ensures.seats (seat_left limits_of s c.args.pass c.close_seat.result a c.close_seat.new.stays es c.args.i left c.requires.its_place
    (c.close_seat.ensures.others left c.requires.its_place) c.requires.ends c.requires.distinct c.requires.seated (c.close_seat.ensures.ended left c.requires.its_place))
