use Rattle.std.proofs.Common.{◌≡◌, ◌∷◌, [], Some, slice_get, subst}
use Rattle.sq_base.specs.declared.kinds.Tuple.{Tuple}
use Rattle.placed_parts.specs.Placing.{limits_of}
use Rattle.live_server.specs.Table.{Conns, without}
use Rattle.live_server.specs.Told.Told.{hears}
use Rattle.live_server.specs.declared.conn.Conn.{Conn}
use Rattle.live_server.specs.Written.{HasSent}
use Rattle.live_chats.specs.Hearing.{hearing}
use Rattle.live_chats.specs.Seating.{HeardAt, chat_of, conns_of}
use Rattle.live_chats.specs.Accounts.{SeatsWereTold}
use Rattle.live_chats.specs.declared.seat.Seat.{Seat}
use Rattle.live_chats.proofs.SeatLemmas.{if_some, of_some, seats_told_on}
use Rattle.live_chats.proofs.seats.hear_at.Goals as goal

pub returns-clause-heard : goal.returns-clause-heard
returns-clause-heard g c =
    subst
    (λ (cs : Conns). Rattle.std.specs.Prelude.IfSome c.hear_now.result.1 (λ h. (t : Tuple) (d : Conn) → slice_get cs c.args.i ≡ Some (t, d)
    → HeardAt c.args.item t d c.args.i h cs (conns_of c.hear_now.new.stays c.hear_now.new.seats.entries) c.args.out.now.items c.hear_now.new.out.items))
    c.renew_at-pass.ensures.table c.hear_now.ensures.heard

pub returns-clause-lost : goal.returns-clause-lost
returns-clause-lost g c =
    subst (λ (cs : Conns). Rattle.std.specs.Prelude.IfNone c.hear_now.result.1 (conns_of c.hear_now.new.stays c.hear_now.new.seats.entries ≡ without c.args.i cs))
    c.renew_at-pass.ensures.table c.hear_now.ensures.lost

pub returns-clause-told : goal.returns-clause-told
returns-clause-told g c =
    let s = c.args.line.now.squeue.now in
    let es = c.args.seats.now.entries in
    let told = λ (h : _) (is : _). of_some (λ _. (t : Tuple) (seat : Seat) → slice_get es c.args.i ≡ Some (t, seat)
    → SeatsWereTold limits_of s c.renew_at-pass.result c.hear_now.result.0 c.renew_at-pass.new.stays c.hear_now.new.stays es c.hear_now.new.seats.entries (hears t ∷ [])) c.hear_now.result.1 h is c.hear_now.ensures.told in
    if_some _ c.hear_now.result.1 (λ h is t seat there.
    seats_told_on limits_of s c.args.pass c.renew_at-pass.result c.hear_now.result.0 c.args.stays.now c.renew_at-pass.new.stays c.hear_now.new.stays es es c.hear_now.new.seats.entries [] (hears t ∷ [])
    c.renew_at-pass.ensures.number c.renew_at-pass.ensures.told (told h is t seat there))

pub returns-clause-wrote : goal.returns-clause-wrote
returns-clause-wrote g c =
    subst
    (λ (cs : Conns). Rattle.std.specs.Prelude.IfNone c.hear_now.result.1 ((t : Tuple) (d : Conn) → slice_get cs c.args.i ≡ Some (t, d)
    → HasSent c.args.out.now.items c.hear_now.new.out.items (hearing c.args.item (chat_of t d)).sent))
    c.renew_at-pass.ensures.table c.hear_now.ensures.wrote
