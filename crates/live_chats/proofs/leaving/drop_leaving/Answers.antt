use Rattle.std.proofs.Common.{◌∙◌, ℕ, ap, sym, not, filter}
use Rattle.live_server.specs.Leaving.{is_leaving}
use Rattle.live_chats.specs.Seating.{conn_of_seat, conns_of}
use Rattle.live_chats.proofs.ListLemmas.{length_map}
use Rattle.live_chats.proofs.leaving.drop_leaving.Goals as goal

pub returns-clause-table : goal.returns-clause-table
unfolding Rattle.live_server.specs.Leaving.without_leaving
returns-clause-table g c =
    let cs = conns_of c.args.stays.now c.args.seats.now.entries in
    c.drop_who.ensures.table
    ∙ ap (λ (n : ℕ). filter (λ x. not (is_leaving c.args.setting.now c.args.now n x.1)) cs) (c.len-taken.ensures.len ∙ sym (length_map (conn_of_seat c.args.stays.now) c.args.seats.now.entries))
