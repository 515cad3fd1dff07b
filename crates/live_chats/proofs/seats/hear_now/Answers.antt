use Rattle.std.proofs.Common.{◌≡◌, ◌+◌, ◌∷◌, [], ap, refl, sym, subst, ◌∙◌, arith}
use Rattle.std_collections.proofs.Entries.{keys_set_value_at}
use Rattle.std.specs.List.{IsDistinct}
use Rattle.indexmap.specs.IndexMap.{set_value_at}
use Rattle.indexmap.specs.Layout.{length-set_value_at}
use Rattle.placed_parts.specs.Placing.{limits_of}
use Rattle.live_server.specs.Told.Told.{hears}
use Rattle.live_server.specs.Table.{tuple_eq}
use Rattle.squeue_state.specs.declared.guarded.Life.{Life}
use Rattle.sq_base.specs.declared.kinds.Tuple.{Tuple}
use Rattle.live_chats.specs.Accounts.{SeatsWereTold, pushed_at}
use Rattle.live_server.specs.Written.{HasSent}
use Rattle.live_server.proofs.WrittenLemmas.{nothing_sent}
use Rattle.live_chats.specs.Hearing.{ChatOf, hearing}
use Rattle.live_chats.specs.Listening.{IsAnswer}
use Rattle.live_chats.specs.Seating.{chat_at}
use Rattle.live_chats.specs.declared.seat.Seat.{Seat}
use Rattle.live_chats.proofs.ListLemmas.{entry_there}
use Rattle.live_chats.proofs.SeatLemmas.{heard_seated, heard_there, hears_there, kept_ends, of_some, others_kept, same_entry, seat_heard, without_same}
use Rattle.live_chats.proofs.seats.hear_now.Goals as goal

pub vacate-pass-requires : goal.vacate-pass-requires
vacate-pass-requires g c =
    let at = entry_there c.args.seats.now.entries c.args.i c.requires.place in
    let its = c.requires.seats.seated c.args.i at.0 at.1 in
    record {
      settled = c.requires.seats.settled;
      seated = λ k e there _. c.requires.seats.seated k e there;
      left = at.0;
      its_place = at.1;
      is_open = its.is_open;
      ends = its.ends;
      distinct = c.requires.seats.distinct;
      paid = c.requires.seats.paid;
    }

pub hear-pass-requires-clause-place : goal.hear-pass-requires-clause-place
hear-pass-requires-clause-place g c = (c.requires.seats.seated c.args.i (c.seat_at-seat.ensures.0, c.seat_at-seat.result) c.seat_at-seat.ensures.1).is_open

pub vacate-pass-requires-in-None : goal.vacate-pass-requires-in-None
vacate-pass-requires-in-None g c =
    let es = c.args.seats.now.entries in
    let e : Tuple × Seat = (c.seat_at-seat.ensures.0, c.seat_at-seat.result) in
    let its = c.requires.seats.seated c.args.i e c.seat_at-seat.ensures.1 in
    record {
      settled = c.hear-pass.ensures.settled;
      seated = others_kept c.args.stays.now c.hear-pass.new.stays es c.args.i e c.seat_at-seat.ensures.1 c.hear-pass.ensures.others its.ends c.requires.seats.distinct (λ k f there _. c.requires.seats.seated k f there);
      left = e;
      its_place = c.seat_at-seat.ensures.1;
      is_open = c.hear-pass.ensures.place;
      ends = kept_ends c.args.item c.seat_at-seat.result.place c.args.stays.now c.hear-pass.new.stays e.0 c.requires.ends c.hear-pass.ensures.chat its.ends;
      distinct = c.requires.seats.distinct;
      paid = omega (arith, c.hear-pass.ensures.asks, c.len.ensures.len, ap (λ (l : Life). l.asks) c.life.ensures);
    }

pub returns-in-Some-clause-seats : goal.returns-in-Some-clause-seats
returns-in-Some-clause-seats g c =
    let es = c.args.seats.now.entries in
    let e : Tuple × Seat = (c.seat_at-seat.ensures.0, c.seat_at-seat.result) in
    let its = c.requires.seats.seated c.args.i e c.seat_at-seat.ensures.1 in
    let a = c.args.stays.now in
    let b = c.hear-pass.new.stays in
    let answer = of_some (λ h. (chat_at b e.1.place ≡ hearing c.args.item (chat_at a e.1.place)) × IsAnswer (chat_at b e.1.place) h c.args.out.now.items c.hear-pass.new.out.items) c.hear-pass.result.1 c.in-Some.heard c.in-Some.is c.hear-pass.ensures.heard in
    rw (c.learn.ensures e.0 e.1 c.seat_at-seat.ensures.1) (record {
      settled = c.hear-pass.ensures.settled;
      seated = heard_seated c.args.stays.now c.hear-pass.new.stays es c.args.i e c.seat_at-seat.ensures.1 c.hear-pass.ensures.others its.ends c.requires.seats.distinct (λ k f there _. c.requires.seats.seated k f there)
          c.args.item c.in-Some.heard c.hear-pass.ensures.place c.requires.ends answer.0 _ _ answer.1;
      distinct = subst (IsDistinct tuple_eq) (sym (keys_set_value_at es c.args.i _)) c.requires.seats.distinct;
      paid = omega (arith, length-set_value_at es c.args.i (record e.1 { facts = c.in-Some.heard.facts }), c.hear-pass.ensures.asks, c.len.ensures.len, ap (λ (l : Life). l.asks) c.life.ensures);
    })

pub returns-in-Some-clause-heard : goal.returns-in-Some-clause-heard
returns-in-Some-clause-heard g c = λ t d there.
    let es = c.args.seats.now.entries in
    let e : Tuple × Seat = (c.seat_at-seat.ensures.0, c.seat_at-seat.result) in
    let its = c.requires.seats.seated c.args.i e c.seat_at-seat.ensures.1 in
    let a = c.args.stays.now in
    let b = c.hear-pass.new.stays in
    let answer = of_some (λ h. (chat_at b e.1.place ≡ hearing c.args.item (chat_at a e.1.place)) × IsAnswer (chat_at b e.1.place) h c.args.out.now.items c.hear-pass.new.out.items) c.hear-pass.result.1 c.in-Some.heard c.in-Some.is c.hear-pass.ensures.heard in
    rw (c.learn.ensures e.0 e.1 c.seat_at-seat.ensures.1)
    (heard_there c.args.stays.now c.hear-pass.new.stays es c.args.i e c.seat_at-seat.ensures.1 c.hear-pass.ensures.others its.ends c.requires.seats.distinct (λ k f there _. c.requires.seats.seated k f there)
    c.args.item c.in-Some.heard c.hear-pass.ensures.place c.requires.ends answer.0 _ _ answer.1 its.conn its.its_conn t d there)

pub returns-in-None-clause-lost : goal.returns-in-None-clause-lost
returns-in-None-clause-lost g c =
    let es = c.args.seats.now.entries in
    let e : Tuple × Seat = (c.seat_at-seat.ensures.0, c.seat_at-seat.result) in
    let its = c.requires.seats.seated c.args.i e c.seat_at-seat.ensures.1 in
    c.vacate-pass-in-None.ensures.table
    ∙ without_same c.args.stays.now c.hear-pass.new.stays es c.args.i e c.seat_at-seat.ensures.1 c.hear-pass.ensures.others its.ends c.requires.seats.distinct (λ k f there _. c.requires.seats.seated k f there)

pub returns-in-Some-clause-told : goal.returns-in-Some-clause-told
returns-in-Some-clause-told g c = λ t seat there.
    let s = c.args.line.now.squeue.now in
    let es = c.args.seats.now.entries in
    let e : Tuple × Seat = (c.seat_at-seat.ensures.0, c.seat_at-seat.result) in
    let its = c.requires.seats.seated c.args.i e c.seat_at-seat.ensures.1 in
    let a = c.args.stays.now in
    let b = c.hear-pass.new.stays in
    let more = of_some (λ _. pushed_at b e.1.place ≡ pushed_at a e.1.place + 1) c.hear-pass.result.1 c.in-Some.heard c.in-Some.is c.hear-pass.ensures.pushed in
    let one = seat_heard limits_of s c.args.pass c.hear-pass.result.0 a b es c.args.i e c.seat_at-seat.ensures.1 c.hear-pass.ensures.others its.ends
    c.requires.seats.distinct (λ k f at _. c.requires.seats.seated k f at) (record e.1 { facts = c.in-Some.heard.facts }) refl more c.hear-pass.ensures.grows in
    let same : t ≡ e.0 = ap (λ (x : Tuple × Seat). x.0) (same_entry es c.args.i e (t, seat) c.seat_at-seat.ensures.1 there) in
    rw (c.learn.ensures e.0 e.1 c.seat_at-seat.ensures.1)
    (subst (λ (k : Tuple). SeatsWereTold limits_of s c.args.pass c.hear-pass.result.0 a b es (set_value_at es c.args.i (record e.1 { facts = c.in-Some.heard.facts })) (hears k ∷ []))
    (sym same) one)

pub returns-in-None-clause-wrote : goal.returns-in-None-clause-wrote
returns-in-None-clause-wrote g c = λ t d there.
    let es = c.args.seats.now.entries in
    let e : Tuple × Seat = (c.seat_at-seat.ensures.0, c.seat_at-seat.result) in
    subst (λ (x : ChatOf). HasSent c.args.out.now.items c.hear-pass.new.out.items x.sent)
    (hears_there c.args.item c.args.stays.now es c.args.i e c.seat_at-seat.ensures.1 (c.requires.seats.seated c.args.i e c.seat_at-seat.ensures.1) t d there) c.hear-pass.ensures.wrote

pub returns-then-life-len-clause-wrote : goal.returns-then-life-len-clause-wrote
returns-then-life-len-clause-wrote g c = λ t d there. nothing_sent _ _ _ refl
