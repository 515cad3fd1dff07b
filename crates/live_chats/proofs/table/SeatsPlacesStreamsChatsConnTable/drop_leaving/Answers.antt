use Rattle.std.proofs.Common.{[], refl}
use Rattle.placed_parts.specs.Placing.{limits_of}
use Rattle.live_chats.proofs.SeatLemmas.{table_told}
use Rattle.live_chats.proofs.table.SeatsPlacesStreamsChatsConnTable.drop_leaving.Goals as goal

pub returns-clause-told : goal.returns-clause-told
returns-clause-told g c =
    let self = c.args.self.now in
    let its = table_told limits_of self.line.squeue.now self.pass c.put_pass.new.place c.take_pass-pass.result c.drop_leaving-pass.result self.stays c.drop_leaving-pass.new.stays
    self.seats.entries c.drop_leaving-pass.new.seats.entries [] c.take_pass-pass.ensures.taken c.put_pass.ensures c.drop_leaving-pass.ensures.number c.drop_leaving-pass.ensures.told in (refl, its.0, its.1)
