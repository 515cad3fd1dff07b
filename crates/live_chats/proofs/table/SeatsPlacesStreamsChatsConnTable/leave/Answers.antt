use Rattle.std.proofs.Common.{[], arith, refl}
use Rattle.placed_parts.specs.Placing.{limits_of, origin_of}
use Rattle.live_chats.proofs.SeatLemmas.{conns_length, good_but, table_told}
use Rattle.live_chats.proofs.table.SeatsPlacesStreamsChatsConnTable.leave.Goals as goal

pub vacate-pass-requires : goal.vacate-pass-requires
vacate-pass-requires g c =
    let self = c.args.self.now in
    good_but limits_of self.line.squeue.now (origin_of self.line.squeue.now.given.first) _ self.pass c.take_pass-pass.result self.stays self.seats.entries c.args.place c.requires.good c.take_pass-pass.ensures.taken
    (omega (arith, conns_length self.stays self.seats.entries, c.requires.place))

pub returns-clause-told : goal.returns-clause-told
returns-clause-told g c =
    let self = c.args.self.now in
    let its = table_told limits_of self.line.squeue.now self.pass c.put_pass.new.place c.take_pass-pass.result c.vacate-pass.result self.stays c.vacate-pass.new.stays
    self.seats.entries c.vacate-pass.new.seats.entries [] c.take_pass-pass.ensures.taken c.put_pass.ensures c.vacate-pass.ensures.number c.vacate-pass.ensures.told in (refl, its.0, its.1)
