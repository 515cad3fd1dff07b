use Rattle.std.proofs.Common.{◌≡◌, ◌<◌, ◌∷◌, [], length, slice_get, Some, sym, ◌∙◌, arith}
use Rattle.sq_base.specs.declared.kinds.Tuple.{Tuple}
use Rattle.placed_parts.specs.Placing.{limits_of, origin_of}
use Rattle.live_server.specs.declared.conn.Conn.{Conn}
use Rattle.live_server.specs.Told.Told.{hears}
use Rattle.live_chats.specs.Accounts.{SeatsWereTold}
use Rattle.live_chats.specs.Seating.{HeardAt, conn_of_seat, conns_of}
use Rattle.live_chats.specs.declared.ear.Heard.{Heard}
use Rattle.live_chats.specs.declared.seat.Seat.{Seat}
use Rattle.live_chats.proofs.ListLemmas.{entry_there}
use Rattle.live_chats.proofs.SeatLemmas.{but_one, conns_at, conns_length, heard_length, if_none, if_some, judged_so, met_here, met_over, of_some, seats_told_on}
use Rattle.live_chats.proofs.seats.meet_at.Goals as goal

pub vacate-pass-requires : goal.vacate-pass-requires
vacate-pass-requires g c =
    let es = c.args.seats.now.entries in
    let a = c.args.stays.now in
    let b = c.hear_at-pass.new.stays in
    let fs = c.hear_at-pass.new.seats.entries in
    let heard = of_some (λ (h : Heard). (t : Tuple) (d : Conn) → slice_get (conns_of a es) c.args.i ≡ Some (t, d) → HeardAt c.args.item t d c.args.i h (conns_of a es) (conns_of b fs) c.args.out.now.items c.hear_at-pass.new.out.items)
    c.hear_at-pass.result.1 c.in-Some.heard c.in-Some.is c.hear_at-pass.ensures.heard in
    let e = entry_there es c.args.i c.requires.place in
    let same : length fs ≡ length es = heard_length a b es fs c.args.i _ ((heard (conn_of_seat a e.0).0 (conn_of_seat a e.0).1 (conns_at a es c.args.i e.0 e.1)).table) in
    but_one limits_of c.args.line.now.squeue.now (origin_of c.args.line.now.squeue.now.given.first) c.args.i c.hear_at-pass.result.0 b fs c.hear_at-pass.ensures.seats (omega (arith, same, c.requires.place))

pub returns-then-is_over-clause-met : goal.returns-then-is_over-clause-met
returns-then-is_over-clause-met g c =
    let es = c.args.seats.now.entries in
    let a = c.args.stays.now in
    let b = c.hear_at-pass.new.stays in
    let fs = c.hear_at-pass.new.seats.entries in
    let heard = of_some (λ (h : Heard). (t : Tuple) (d : Conn) → slice_get (conns_of a es) c.args.i ≡ Some (t, d) → HeardAt c.args.item t d c.args.i h (conns_of a es) (conns_of b fs) c.args.out.now.items c.hear_at-pass.new.out.items)
    c.hear_at-pass.result.1 c.in-Some.heard c.in-Some.is c.hear_at-pass.ensures.heard in
    let lt : c.args.i < length (conns_of a es) = omega (arith, conns_length a es, c.requires.place) in
    if_some _ c.in-Some.heard.met (λ m is t d there.
    met_over c.args.item t d c.args.i c.in-Some.heard (conns_of a es) (conns_of b fs) c.args.out.now.items c.hear_at-pass.new.out.items (heard t d there) lt
    (sym c.is_over.ensures ∙ c.if-is_over.true) m is (conns_of c.vacate-pass.new.stays c.vacate-pass.new.seats.entries) c.vacate-pass.ensures.table)

pub returns-clause-met : goal.returns-clause-met
returns-clause-met g c =
    let es = c.args.seats.now.entries in
    let a = c.args.stays.now in
    let b = c.hear_at-pass.new.stays in
    let fs = c.hear_at-pass.new.seats.entries in
    let heard = of_some (λ (h : Heard). (t : Tuple) (d : Conn) → slice_get (conns_of a es) c.args.i ≡ Some (t, d) → HeardAt c.args.item t d c.args.i h (conns_of a es) (conns_of b fs) c.args.out.now.items c.hear_at-pass.new.out.items)
    c.hear_at-pass.result.1 c.in-Some.heard c.in-Some.is c.hear_at-pass.ensures.heard in
    let lt : c.args.i < length (conns_of a es) = omega (arith, conns_length a es, c.requires.place) in
    if_some _ c.in-Some.heard.met (λ m is t d there.
    met_here c.args.item t d c.args.i c.in-Some.heard (conns_of a es) (conns_of b fs) c.args.out.now.items c.hear_at-pass.new.out.items (heard t d there) lt
    (sym c.is_over.ensures ∙ c.if-is_over.false) m is)

pub returns-then-is_over-clause-lost : goal.returns-then-is_over-clause-lost
returns-then-is_over-clause-lost g c =
    let es = c.args.seats.now.entries in
    let a = c.args.stays.now in
    let b = c.hear_at-pass.new.stays in
    let fs = c.hear_at-pass.new.seats.entries in
    let heard = of_some (λ (h : Heard). (t : Tuple) (d : Conn) → slice_get (conns_of a es) c.args.i ≡ Some (t, d) → HeardAt c.args.item t d c.args.i h (conns_of a es) (conns_of b fs) c.args.out.now.items c.hear_at-pass.new.out.items)
    c.hear_at-pass.result.1 c.in-Some.heard c.in-Some.is c.hear_at-pass.ensures.heard in
    let e = entry_there es c.args.i c.requires.place in
    let lt : c.args.i < length (conns_of a es) = omega (arith, conns_length a es, c.requires.place) in
    if_none _ c.in-Some.heard.met (λ none. absurd (judged_so c.args.item (conn_of_seat a e.0).0 (conn_of_seat a e.0).1 c.args.i c.in-Some.heard (conns_of a es) (conns_of b fs) c.args.out.now.items c.hear_at-pass.new.out.items
    (heard (conn_of_seat a e.0).0 (conn_of_seat a e.0).1 (conns_at a es c.args.i e.0 e.1)) lt c.requires.judges none))

pub returns-clause-lost : goal.returns-clause-lost
returns-clause-lost g c =
    let es = c.args.seats.now.entries in
    let a = c.args.stays.now in
    let b = c.hear_at-pass.new.stays in
    let fs = c.hear_at-pass.new.seats.entries in
    let heard = of_some (λ (h : Heard). (t : Tuple) (d : Conn) → slice_get (conns_of a es) c.args.i ≡ Some (t, d) → HeardAt c.args.item t d c.args.i h (conns_of a es) (conns_of b fs) c.args.out.now.items c.hear_at-pass.new.out.items)
    c.hear_at-pass.result.1 c.in-Some.heard c.in-Some.is c.hear_at-pass.ensures.heard in
    let e = entry_there es c.args.i c.requires.place in
    let lt : c.args.i < length (conns_of a es) = omega (arith, conns_length a es, c.requires.place) in
    if_none _ c.in-Some.heard.met (λ none. absurd (judged_so c.args.item (conn_of_seat a e.0).0 (conn_of_seat a e.0).1 c.args.i c.in-Some.heard (conns_of a es) (conns_of b fs) c.args.out.now.items c.hear_at-pass.new.out.items
    (heard (conn_of_seat a e.0).0 (conn_of_seat a e.0).1 (conns_at a es c.args.i e.0 e.1)) lt c.requires.judges none))

pub returns-then-is_over-clause-told : goal.returns-then-is_over-clause-told
returns-then-is_over-clause-told g c =
    let s = c.args.line.now.squeue.now in
    let es = c.args.seats.now.entries in
    let a = c.args.stays.now in
    let b = c.hear_at-pass.new.stays in
    let fs = c.hear_at-pass.new.seats.entries in
    let first = of_some (λ (h : Heard). (t : Tuple) (seat : Seat) → slice_get es c.args.i ≡ Some (t, seat)
    → SeatsWereTold limits_of s c.args.pass c.hear_at-pass.result.0 a b es fs (hears t ∷ []))
    c.hear_at-pass.result.1 c.in-Some.heard c.in-Some.is c.hear_at-pass.ensures.told in
    if_some _ c.in-Some.heard.met (λ m is t seat there.
    seats_told_on limits_of s c.args.pass c.hear_at-pass.result.0 c.vacate-pass.result a b c.vacate-pass.new.stays es fs c.vacate-pass.new.seats.entries (hears t ∷ []) []
    c.hear_at-pass.ensures.number (first t seat there) c.vacate-pass.ensures.told)

pub returns-clause-told : goal.returns-clause-told
returns-clause-told g c =
    let s = c.args.line.now.squeue.now in
    let es = c.args.seats.now.entries in
    let a = c.args.stays.now in
    let b = c.hear_at-pass.new.stays in
    let fs = c.hear_at-pass.new.seats.entries in
    let first = of_some (λ (h : Heard). (t : Tuple) (seat : Seat) → slice_get es c.args.i ≡ Some (t, seat)
    → SeatsWereTold limits_of s c.args.pass c.hear_at-pass.result.0 a b es fs (hears t ∷ []))
    c.hear_at-pass.result.1 c.in-Some.heard c.in-Some.is c.hear_at-pass.ensures.told in
    if_some _ c.in-Some.heard.met (λ m is t seat there. first t seat there)

pub returns-then-is_over-clause-wrote : goal.returns-then-is_over-clause-wrote
returns-then-is_over-clause-wrote g c =
    let es = c.args.seats.now.entries in
    let a = c.args.stays.now in
    let b = c.hear_at-pass.new.stays in
    let fs = c.hear_at-pass.new.seats.entries in
    let heard = of_some (λ (h : Heard). (t : Tuple) (d : Conn) → slice_get (conns_of a es) c.args.i ≡ Some (t, d) → HeardAt c.args.item t d c.args.i h (conns_of a es) (conns_of b fs) c.args.out.now.items c.hear_at-pass.new.out.items)
    c.hear_at-pass.result.1 c.in-Some.heard c.in-Some.is c.hear_at-pass.ensures.heard in
    let e = entry_there es c.args.i c.requires.place in
    let lt : c.args.i < length (conns_of a es) = omega (arith, conns_length a es, c.requires.place) in
    if_none _ c.in-Some.heard.met (λ none. absurd (judged_so c.args.item (conn_of_seat a e.0).0 (conn_of_seat a e.0).1 c.args.i c.in-Some.heard (conns_of a es) (conns_of b fs) c.args.out.now.items c.hear_at-pass.new.out.items
    (heard (conn_of_seat a e.0).0 (conn_of_seat a e.0).1 (conns_at a es c.args.i e.0 e.1)) lt c.requires.judges none))

pub returns-clause-wrote : goal.returns-clause-wrote
returns-clause-wrote g c =
    let es = c.args.seats.now.entries in
    let a = c.args.stays.now in
    let b = c.hear_at-pass.new.stays in
    let fs = c.hear_at-pass.new.seats.entries in
    let heard = of_some (λ (h : Heard). (t : Tuple) (d : Conn) → slice_get (conns_of a es) c.args.i ≡ Some (t, d) → HeardAt c.args.item t d c.args.i h (conns_of a es) (conns_of b fs) c.args.out.now.items c.hear_at-pass.new.out.items)
    c.hear_at-pass.result.1 c.in-Some.heard c.in-Some.is c.hear_at-pass.ensures.heard in
    let e = entry_there es c.args.i c.requires.place in
    let lt : c.args.i < length (conns_of a es) = omega (arith, conns_length a es, c.requires.place) in
    if_none _ c.in-Some.heard.met (λ none. absurd (judged_so c.args.item (conn_of_seat a e.0).0 (conn_of_seat a e.0).1 c.args.i c.in-Some.heard (conns_of a es) (conns_of b fs) c.args.out.now.items c.hear_at-pass.new.out.items
    (heard (conn_of_seat a e.0).0 (conn_of_seat a e.0).1 (conns_at a es c.args.i e.0 e.1)) lt c.requires.judges none))
