use Rattle.std.proofs.Common.{◌∷◌, [], refl}
use Rattle.placed_parts.specs.Placing.{limits_of}
use Rattle.live_server.specs.Told.Told.{begins}
use Rattle.live_server.proofs.ArriveLemmas.{map_ok}
use Rattle.live_chats.proofs.SeatLemmas.{table_told}
use Rattle.live_chats.proofs.table.SeatsPlacesStreamsChatsConnTable.insert.Goals as goal

pub returns-clause-told : goal.returns-clause-told
returns-clause-told g c =
    let self = c.args.self.now in
    map_ok c.seat_new-pass.result.1 _ _ (λ told. let its = table_told limits_of self.line.squeue.now self.pass c.put_pass.new.place c.take_pass-pass.result
    c.seat_new-pass.result.0 self.stays c.seat_new-pass.new.stays self.seats.entries c.seat_new-pass.new.seats.entries (begins c.args.ends ∷ [])
    c.take_pass-pass.ensures.taken c.put_pass.ensures c.seat_new-pass.ensures.number told in (refl, its.0, its.1)) c.seat_new-pass.ensures.told
