use Rattle.std.proofs.Common.{◌∙◌, ap, sym}
use Rattle.live_server.specs.Acts.{is_over}
use Rattle.live_server.proofs.MeetLemmas.{gone_is_over}
use Rattle.live_server.proofs.TableLemmas.{conn_written, place_written, within_at, without_set}
use Rattle.live_server.proofs.table.meet_at.Goals as goal

pub returns-in-Ok-clause-gone : goal.returns-in-Ok-clause-gone
returns-in-Ok-clause-gone c = λ gone.
    let t = c.args.tuple.now in
    let cs = c.args.table.now.entries in
    let i = c.args.place in
    let lt = within_at t cs i c.requires.place in
    c.settle.ensures.gone t
    (ap is_over (conn_written cs i c.meet.new.self lt ∙ c.in-Ok.ensures.conn)
    ∙ gone_is_over c.args.now c.args.iss c.args.seg.now c.args.text.now t c.pair_mut-conn.result.1.now (sym c.in-Ok.ensures.met ∙ gone))
    (place_written t cs i c.meet.new.self ∙ c.requires.place)

pub returns-in-Err-clause-lost : goal.returns-in-Err-clause-lost
returns-in-Err-clause-lost c =
    c.leave.ensures.table ∙ without_set c.args.table.now.entries c.args.place c.meet.new.self (within_at c.args.tuple.now c.args.table.now.entries c.args.place c.requires.place)
