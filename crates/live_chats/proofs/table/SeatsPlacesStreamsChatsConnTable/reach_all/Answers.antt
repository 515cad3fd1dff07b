use Rattle.std.proofs.Common.{List, map, refl, subst, sym}
use Rattle.placed_parts.specs.Placing.{limits_of}
use Rattle.sq_base.specs.declared.kinds.Tuple.{Tuple}
use Rattle.live_server.specs.Told.Told.{hears}
use Rattle.live_chats.specs.Accounts.{SeatsWereTold}
use Rattle.live_chats.proofs.SeatLemmas.{conns_keys, table_told}
use Rattle.live_chats.proofs.table.SeatsPlacesStreamsChatsConnTable.reach_all.Goals as goal

pub returns-then-all-clause-told : goal.returns-then-all-clause-told
returns-then-all-clause-told g c =
    let self = c.args.self.now in
    let s = self.line.squeue.now in
    let es = self.seats.entries in
    let new = c.reach_each-pass.new in
    let its = table_told limits_of s self.pass c.put_pass.new.place c.take_pass-pass.result c.reach_each-pass.result.0 self.stays new.stays es new.seats.entries _
    c.take_pass-pass.ensures.taken c.put_pass.ensures c.reach_each-pass.ensures.number
    (subst (λ (ks : List Tuple). SeatsWereTold limits_of s c.take_pass-pass.result c.reach_each-pass.result.0 self.stays new.stays es new.seats.entries (map hears ks))
    (sym (conns_keys self.stays es)) (c.reach_each-pass.ensures.told c.if-all.true)) in (refl, its.0, its.1)
