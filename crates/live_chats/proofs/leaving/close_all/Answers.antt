use Rattle.std.proofs.Common.{◌≤◌, ◌∙◌, inl, length, refl, arith}
use Rattle.placed_parts.specs.Placing.{limits_of, origin_of}
use Rattle.live_chats.specs.Seating.{goes}
use Rattle.live_chats.proofs.ClosingLemmas.{closed_conns, closed_seats, closing_at_first, closing_on, closing_pays, told_closed, told_closing}
use Rattle.live_chats.proofs.SeatLemmas.{seats_untold}
use Rattle.live_chats.proofs.leaving.close_all.Goals as goal

pub loop-i-init : goal.loop-i-init
loop-i-init g c =
    let s = c.args.line.now.squeue.now in
    record { closing = closing_at_first limits_of s (origin_of s.given.first) (goes c.args.who.now) c.args.pass c.args.stays.now c.args.seats.now.entries c.requires; told = seats_untold limits_of s c.args.pass c.args.stays.now c.args.seats.now.entries; number = refl; all = c.len-i-end.ensures.len }

pub seat_at-seat-requires : goal.seat_at-seat-requires
seat_at-seat-requires g c = omega (arith, c.loop-i.invariant.all, c.loop-i-test.true)

pub close_one-pass-requires-clause-settled : goal.close_one-pass-requires-clause-settled
close_one-pass-requires-clause-settled g c = c.loop-i.invariant.closing.settled

pub close_one-pass-requires-clause-place : goal.close_one-pass-requires-clause-place
close_one-pass-requires-clause-place g c = λ so.
    let e = c.seat_at-seat.ensures in
    (c.loop-i.invariant.closing.seated c.loop-i.i (e.0, c.seat_at-seat.result) e.1 (inl (omega arith))).is_open

pub close_one-pass-requires-clause-asks : goal.close_one-pass-requires-clause-asks
close_one-pass-requires-clause-asks g c = λ so.
    let s = c.args.line.now.squeue.now in
    let e = c.seat_at-seat.ensures in
    let closing = c.loop-i.invariant.closing in
    closing_pays limits_of s (origin_of s.given.first) (goes c.args.who.now) c.loop-i.pass c.loop-i.pass c.args.stays.now c.loop-i.stays c.loop-i.stays c.args.seats.now.entries c.loop-i.i (e.0, c.seat_at-seat.result) e.1 closing closing.settled so

pub loop-i-preserved : goal.loop-i-preserved
loop-i-preserved g c =
    let s = c.args.line.now.squeue.now in
    let e = c.seat_at-seat.ensures in
    let i = c.loop-i.invariant in
    let one = c.close_one-pass.ensures in
    record {
      closing =
          closing_on limits_of s (origin_of s.given.first) (goes c.args.who.now) c.loop-i.pass c.close_one-pass.result c.args.stays.now c.loop-i.stays c.close_one-pass.new.stays c.args.seats.now.entries c.loop-i.i (e.0, c.seat_at-seat.result) e.1
          i.closing one.settled one.same one.others one.spent;
      told = told_closing limits_of s (origin_of s.given.first) (goes c.args.who.now) c.args.pass c.loop-i.pass c.close_one-pass.result c.args.stays.now c.loop-i.stays
          c.args.seats.now.entries c.loop-i.i (e.0, c.seat_at-seat.result) e.1 i.closing i.number i.told one.passed one.ended;
      number = one.number ∙ i.number;
      all = i.all;
    }

pub returns-clause-seats : goal.returns-clause-seats
returns-clause-seats g c =
    let s = c.args.line.now.squeue.now in
    let past : length c.args.seats.now.entries ≤ c.loop-i.i = omega (arith, c.loop-i.invariant.all, c.loop-i-test.false) in
    closed_seats limits_of s (origin_of s.given.first) (goes c.args.who.now) c.loop-i.pass c.args.stays.now c.loop-i.stays c.args.seats.now.entries c.loop-i.i c.loop-i.invariant.closing past

pub returns-clause-table : goal.returns-clause-table
returns-clause-table g c =
    let s = c.args.line.now.squeue.now in
    let past : length c.args.seats.now.entries ≤ c.loop-i.i = omega (arith, c.loop-i.invariant.all, c.loop-i-test.false) in
    closed_conns limits_of s (origin_of s.given.first) (goes c.args.who.now) c.loop-i.pass c.args.stays.now c.loop-i.stays c.args.seats.now.entries c.loop-i.i c.loop-i.invariant.closing past c.requires.seated

pub returns-clause-told : goal.returns-clause-told
returns-clause-told g c =
    let s = c.args.line.now.squeue.now in
    let past : length c.args.seats.now.entries ≤ c.loop-i.i = omega (arith, c.loop-i.invariant.all, c.loop-i-test.false) in
    told_closed limits_of s (origin_of s.given.first) (goes c.args.who.now) c.args.pass c.loop-i.pass c.args.stays.now c.loop-i.stays c.args.seats.now.entries c.loop-i.i
    c.loop-i.invariant.closing past c.loop-i.invariant.told
