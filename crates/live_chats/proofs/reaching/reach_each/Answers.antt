use Rattle.std.proofs.Common.{[], ◌++◌, map, ap, subst, ◌∙◌}
use Rattle.std.specs.List.{flat_map}
use Rattle.std.specs.Map.{keys_of}
use Rattle.placed_parts.specs.Placing.{limits_of}
use Rattle.live_server.specs.Acts.{sent_by, ticked}
use Rattle.live_server.specs.Table.{Conns, all_reached}
use Rattle.live_server.specs.Told.Told.{hears}
use Rattle.live_server.specs.Written.{HasSent}
use Rattle.live_chats.specs.Seating.{Spoils, conns_of}
use Rattle.live_chats.proofs.SeatLemmas.{seats_told_on}
use Rattle.live_chats.proofs.reaching.reach_each.Goals as goal

pub returns-clause-table : goal.returns-clause-table
returns-clause-table g c = λ yes. c.reach_now.ensures.table yes ∙ ap (all_reached c.args.measures c.args.now) c.renew_all-pass.ensures.table

pub returns-clause-sent : goal.returns-clause-sent
returns-clause-sent g c = λ yes.
    c.reach_now.ensures.sent yes ∙ ap (λ (cs : Conns). c.args.out.now.items ++ flat_map (λ x. sent_by x.0 (ticked c.args.measures c.args.now x.1)) cs) c.renew_all-pass.ensures.table

pub returns-clause-told : goal.returns-clause-told
returns-clause-told g c = λ yes.
    let es = c.args.seats.now.entries in
    seats_told_on limits_of c.args.line.now.squeue.now c.args.pass c.renew_all-pass.result c.reach_now.result.0 c.args.stays.now c.renew_all-pass.new.stays c.reach_now.new.stays es es c.reach_now.new.seats.entries
    [] (map hears (keys_of es)) c.renew_all-pass.ensures.number c.renew_all-pass.ensures.told (c.reach_now.ensures.told yes)

pub returns-clause-lost : goal.returns-clause-lost
returns-clause-lost g c = λ no.
    subst (λ (cs : Conns). Spoils c.args.measures c.args.now cs (conns_of c.reach_now.new.stays c.reach_now.new.seats.entries)) c.renew_all-pass.ensures.table (c.reach_now.ensures.lost no)

pub returns-clause-wrote : goal.returns-clause-wrote
returns-clause-wrote g c = λ no.
    subst (λ (cs : Conns). HasSent c.args.out.now.items c.reach_now.new.out.items (flat_map (λ x. sent_by x.0 (ticked c.args.measures c.args.now x.1)) cs)) c.renew_all-pass.ensures.table (c.reach_now.ensures.wrote no)
