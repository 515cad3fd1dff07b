use Rattle.std.proofs.Common.{◌≡◌, ◌∷◌, [], ◌<◌, length, slice_get, Some, arith, refl, sym, subst, ◌∙◌}
use Rattle.sq_base.specs.declared.kinds.Tuple.{Tuple}
use Rattle.live_server.specs.Table.{conn_at}
use Rattle.live_server.specs.declared.conn.Conn.{Conn}
use Rattle.live_server.specs.declared.conn.Met.{Met}
use Rattle.placed_parts.specs.Placing.{limits_of}
use Rattle.live_server.specs.Told.Told.{hears}
use Rattle.live_server.proofs.TableLemmas.{within_at}
use Rattle.live_chats.specs.Accounts.{SeatsWereTold}
use Rattle.live_server.specs.Written.{HasSent}
use Rattle.live_chats.specs.Hearing.{hearing}
use Rattle.live_chats.specs.Seating.{MetAt, chat_of, conn_of_seat, conns_of}
use Rattle.live_chats.specs.declared.seat.Seat.{Seat}
use Rattle.live_chats.specs.declared.item.ChatItem.{ChatItem}
use Rattle.live_chats.specs.declared.item.ChatItem.TheVariants.{Urges}
use Rattle.live_chats.proofs.HearLemmas.{urges_keeps_ends}
use Rattle.live_chats.proofs.MeetLemmas.{looked_up, urged_met, urged_partly, urged_sent, urged_table, urges_judge}
use Rattle.live_chats.proofs.ListLemmas.{entry_there}
use Rattle.live_chats.proofs.SeatLemmas.{conns_at, conns_length, none_of, of_some, table_told}
use Rattle.live_chats.proofs.table.SeatsPlacesStreamsChatsConnTable.urge.Goals as goal

pub meet_at-pass-requires-clause-ends : goal.meet_at-pass-requires-clause-ends
meet_at-pass-requires-clause-ends g c = urges_keeps_ends c.args.now c.args.pointer c.args.seg.now

pub meet_at-pass-requires-clause-judges : goal.meet_at-pass-requires-clause-judges
meet_at-pass-requires-clause-judges g c = urges_judge c.args.now c.args.pointer c.args.seg.now

pub returns-in-Some-clause-met : goal.returns-in-Some-clause-met
returns-in-Some-clause-met g c =
    let self = c.args.self.now in
    let was = conns_of self.stays self.seats.entries in
    let is = conns_of c.meet_at-pass.new.stays c.meet_at-pass.new.seats.entries in
    let t = c.args._tuple.now in
    let d : Conn = conn_at c.args.place was in
    let x : ChatItem = Urges c.args.now c.args.pointer c.args.seg.now in
    let met = of_some (λ (m : Met). (k : Tuple) (e : Conn) → slice_get was c.args.place ≡ Some (k, e) → MetAt x k e c.args.place m was is c.args.out.now.items c.meet_at-pass.new.out.items)
    c.meet_at-pass.result.1 c.in-Some.met c.in-Some.is c.meet_at-pass.ensures.met t d (looked_up t was c.args.place c.requires.place) in
    urged_met c.args.now c.args.pointer c.args.seg.now t d c.args.place c.in-Some.met was is c.args.out.now.items c.meet_at-pass.new.out.items met

pub returns-in-Some-clause-table : goal.returns-in-Some-clause-table
returns-in-Some-clause-table g c =
    let self = c.args.self.now in
    let was = conns_of self.stays self.seats.entries in
    let is = conns_of c.meet_at-pass.new.stays c.meet_at-pass.new.seats.entries in
    let t = c.args._tuple.now in
    let d : Conn = conn_at c.args.place was in
    let x : ChatItem = Urges c.args.now c.args.pointer c.args.seg.now in
    let met = of_some (λ (m : Met). (k : Tuple) (e : Conn) → slice_get was c.args.place ≡ Some (k, e) → MetAt x k e c.args.place m was is c.args.out.now.items c.meet_at-pass.new.out.items)
    c.meet_at-pass.result.1 c.in-Some.met c.in-Some.is c.meet_at-pass.ensures.met t d (looked_up t was c.args.place c.requires.place) in
    urged_table c.args.now c.args.pointer c.args.seg.now t d c.args.place c.in-Some.met was is c.args.out.now.items c.meet_at-pass.new.out.items met

pub returns-in-Some-clause-sent : goal.returns-in-Some-clause-sent
returns-in-Some-clause-sent g c =
    let self = c.args.self.now in
    let was = conns_of self.stays self.seats.entries in
    let is = conns_of c.meet_at-pass.new.stays c.meet_at-pass.new.seats.entries in
    let t = c.args._tuple.now in
    let d : Conn = conn_at c.args.place was in
    let x : ChatItem = Urges c.args.now c.args.pointer c.args.seg.now in
    let met = of_some (λ (m : Met). (k : Tuple) (e : Conn) → slice_get was c.args.place ≡ Some (k, e) → MetAt x k e c.args.place m was is c.args.out.now.items c.meet_at-pass.new.out.items)
    c.meet_at-pass.result.1 c.in-Some.met c.in-Some.is c.meet_at-pass.ensures.met t d (looked_up t was c.args.place c.requires.place) in
    urged_sent c.args.now c.args.pointer c.args.seg.now t d c.args.place c.in-Some.met was is c.args.out.now.items c.meet_at-pass.new.out.items met

pub returns-in-Some-clause-told : goal.returns-in-Some-clause-told
returns-in-Some-clause-told g c =
    let self = c.args.self.now in
    let s = self.line.squeue.now in
    let es = self.seats.entries in
    let was = conns_of self.stays es in
    let t = c.args._tuple.now in
    let new = c.meet_at-pass.new in
    let lt : c.args.place < length es = omega (arith, within_at t was c.args.place c.requires.place, conns_length self.stays es) in
    let e = entry_there es c.args.place lt in
    let ends : e.0.0 ≡ t = pair_is (conn_of_seat self.stays e.0) (t, conn_at c.args.place was) (sym (conns_at self.stays es c.args.place e.0 e.1) ∙ looked_up t was c.args.place c.requires.place) in
    let told = of_some (λ (m : Met). (k : Tuple) (seat : Seat) → slice_get es c.args.place ≡ Some (k, seat)
    → SeatsWereTold limits_of s c.take_pass-pass.result c.meet_at-pass.result.0 self.stays new.stays es new.seats.entries (hears k ∷ []))
    c.meet_at-pass.result.1 c.in-Some.met c.in-Some.is c.meet_at-pass.ensures.told e.0.0 e.0.1 e.1 in
    let its = table_told limits_of s self.pass c.put_pass.new.place c.take_pass-pass.result c.meet_at-pass.result.0 self.stays new.stays es new.seats.entries (hears t ∷ [])
    c.take_pass-pass.ensures.taken c.put_pass.ensures c.meet_at-pass.ensures.number
    (subst (λ (k : Tuple). SeatsWereTold limits_of s c.take_pass-pass.result c.meet_at-pass.result.0 self.stays new.stays es new.seats.entries (hears k ∷ [])) ends told) in (refl, its.0, its.1)
  where
    pair_is : (x y : Tuple × Conn) → Some x ≡ Some y → x.0 ≡ y.0
    pair_is x y p = cc

pub returns-in-None-clause-wrote : goal.returns-in-None-clause-wrote
returns-in-None-clause-wrote g c =
    let self = c.args.self.now in
    let was = conns_of self.stays self.seats.entries in
    let t = c.args._tuple.now in
    let d : Conn = conn_at c.args.place was in
    let wrote = none_of ((k : Tuple) (e : Conn) → slice_get was c.args.place ≡ Some (k, e)
    → HasSent c.args.out.now.items c.meet_at-pass.new.out.items (hearing (Urges c.args.now c.args.pointer c.args.seg.now) (chat_of k e)).sent)
    c.meet_at-pass.result.1 c.in-None.is c.meet_at-pass.ensures.wrote t d (looked_up t was c.args.place c.requires.place) in
    urged_partly c.args.now c.args.pointer c.args.seg.now t d c.args.out.now.items c.meet_at-pass.new.out.items wrote
