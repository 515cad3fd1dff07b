use Rattle.std.proofs.Common.{◌≤◌, ◌+◌, ◌<◌, ◌⊎◌, inl, length, sym, subst, arith}
use Rattle.sq_base.specs.declared.kinds.Tuple.{Tuple}
use Rattle.placed_parts.specs.Placing.{limits_of, origin_of}
use Rattle.stream_stays.specs.Places.{life_of}
use Rattle.live_chats.specs.Accounts.{leaves_at, many_feeds, pushed_at}
use Rattle.live_chats.specs.declared.seat.Seat.{Seat}
use Rattle.live_chats.proofs.RenewLemmas.{renewed_conns, renewed_seats, seats_renewed}
use Rattle.live_chats.proofs.SeatLemmas.{same_entry, seats_untold}
use Rattle.live_chats.proofs.renewing.renew_at.Goals as goal

pub is_due-due-requires : goal.is_due-due-requires
is_due-due-requires g c = (c.requires.seats.seated c.args.i (c.seat_at-seat.ensures.0, c.seat_at-seat.result) c.seat_at-seat.ensures.1).is_open

pub returns-then-not-due-clause-told : goal.returns-then-not-due-clause-told
returns-then-not-due-clause-told g c = seats_untold limits_of c.args.line.now.squeue.now c.args.pass c.args.stays.now c.args.seats.now.entries

pub returns-then-not-due-clause-few : goal.returns-then-not-due-clause-few
returns-then-not-due-clause-few g c = λ e at.
    let es = c.args.seats.now.entries in
    let its : Tuple × Seat = (c.seat_at-seat.ensures.0, c.seat_at-seat.result) in
    subst (λ (x : Tuple × Seat). (pushed_at c.args.stays.now x.1.place < many_feeds) ⊎ (leaves_at c.args.stays.now x.1.place < 2) ⊎ ((life_of c.args.stays.now).asks ≤ length es + 2))
    (sym (same_entry es c.args.i its e c.seat_at-seat.ensures.1 at)) (c.is_due-due.ensures.no c.if-not-due.true)

pub renew-requires-clause-place : goal.renew-requires-clause-place
renew-requires-clause-place g c = (c.requires.seats.seated c.args.i (c.seat_at-seat.ensures.0, c.seat_at-seat.result) c.seat_at-seat.ensures.1).is_open

pub renew-requires-clause-leaves : goal.renew-requires-clause-leaves
renew-requires-clause-leaves g c = (c.is_due-due.ensures.yes c.if-not-due.false).0

pub renew-requires-clause-asks : goal.renew-requires-clause-asks
renew-requires-clause-asks g c = let asks = (c.is_due-due.ensures.yes c.if-not-due.false).1 in omega (arith, asks)

pub returns-clause-seats : goal.returns-clause-seats
returns-clause-seats g c =
    let s = c.args.line.now.squeue.now in
    let asks = (c.is_due-due.ensures.yes c.if-not-due.false).1 in
    renewed_seats c.args.stays.now c.renew.new.stays c.args.seats.now.entries c.args.i (c.seat_at-seat.ensures.0, c.seat_at-seat.result) c.seat_at-seat.ensures.1
    c.renew.ensures.others c.renew.ensures.place c.renew.ensures.chat limits_of s (origin_of s.given.first) c.args.pass c.renew.result c.requires.seats
    c.renew.ensures.settled (omega (arith, asks, c.renew.ensures.asks))

pub returns-clause-table : goal.returns-clause-table
returns-clause-table g c =
    let s = c.args.line.now.squeue.now in
    renewed_conns c.args.stays.now c.renew.new.stays c.args.seats.now.entries c.args.i (c.seat_at-seat.ensures.0, c.seat_at-seat.result) c.seat_at-seat.ensures.1
    c.renew.ensures.others c.renew.ensures.place c.renew.ensures.chat limits_of s (origin_of s.given.first) c.args.pass c.renew.result c.requires.seats

pub returns-clause-told : goal.returns-clause-told
returns-clause-told g c =
    let s = c.args.line.now.squeue.now in
    seats_renewed c.args.stays.now c.renew.new.stays c.args.seats.now.entries c.args.i (c.seat_at-seat.ensures.0, c.seat_at-seat.result) c.seat_at-seat.ensures.1
    c.renew.ensures.others c.renew.ensures.place c.renew.ensures.chat limits_of s (origin_of s.given.first) c.args.pass c.renew.result c.requires.seats
    c.renew.ensures.none c.renew.ensures.renewed

pub returns-clause-few : goal.returns-clause-few
returns-clause-few g c = λ e at.
    let es = c.args.seats.now.entries in
    let its : Tuple × Seat = (c.seat_at-seat.ensures.0, c.seat_at-seat.result) in
    let none = c.renew.ensures.none in
    subst (λ (x : Tuple × Seat). (pushed_at c.renew.new.stays x.1.place < many_feeds) ⊎ (leaves_at c.args.stays.now x.1.place < 2) ⊎ ((life_of c.args.stays.now).asks ≤ length es + 2))
    (sym (same_entry es c.args.i its e c.seat_at-seat.ensures.1 at)) (inl (omega (arith, none)))
