use Rattle.std.proofs.Common.{◌≡◌, ◌++◌, ◌∙◌, None, ap, rules, subst}
use Rattle.segment_codec.specs.Refusal.{tuple_of}
use Rattle.live_server.specs.Serving.{ServerOf, arrives, server_of}
use Rattle.live_server.specs.Table.{place_of}
use Rattle.live_server.specs.Told.{told_arriving}
use Rattle.live_server.specs.Written.{HasSent}
use Rattle.live_server.proofs.ArriveLemmas.{map_ok, opens_sent, opens_server, opens_told}
use Rattle.live_server.proofs.LossLemmas.{map_err}
use Rattle.live_server.proofs.TableLemmas.{new_from_place}
use Rattle.live_server.proofs.rules.Rules.arrive.Goals as goal

pub open-requires-clause-new : goal.open-requires-clause-new
open-requires-clause-new g c =
    let none : place_of (tuple_of c.args.seg.now) (g.T.ConnTable.conns c.args.self.now.table) ≡ None = search rules in
    new_from_place (tuple_of c.args.seg.now) (g.T.ConnTable.conns c.args.self.now.table) none

pub returns-in-None-clause-server : goal.returns-in-None-clause-server
returns-in-None-clause-server g c =
    let before : ServerOf = server_of g.T.ConnTable.conns c.args.self.now in
    let none : place_of (tuple_of c.args.seg.now) (g.T.ConnTable.conns c.args.self.now.table) ≡ None = search rules in
    map_ok c.open.result _ (server_of g.T.ConnTable.conns c.open.new.self ≡ (arrives c.args.now c.args.seg.now c.args.text.now before).server)
    (λ is. is ∙ opens_server c.args.now c.args.seg.now c.args.text.now before none) c.open.ensures.server

pub returns-in-None-clause-sent : goal.returns-in-None-clause-sent
returns-in-None-clause-sent g c =
    let before : ServerOf = server_of g.T.ConnTable.conns c.args.self.now in
    let none : place_of (tuple_of c.args.seg.now) (g.T.ConnTable.conns c.args.self.now.table) ≡ None = search rules in
    map_ok c.open.result _ (c.open.new.out.items ≡ c.args.out.now.items ++ (arrives c.args.now c.args.seg.now c.args.text.now before).sent)
    (λ is. is ∙ ap (λ l. c.args.out.now.items ++ l) (opens_sent c.args.now c.args.seg.now c.args.text.now before none)) c.open.ensures.sent

pub returns-in-None-clause-told : goal.returns-in-None-clause-told
returns-in-None-clause-told g c =
    let before : ServerOf = server_of g.T.ConnTable.conns c.args.self.now in
    let none : place_of (tuple_of c.args.seg.now) (g.T.ConnTable.conns c.args.self.now.table) ≡ None = search rules in
    map_ok c.open.result _ (g.T.ConnTable.tells c.args.self.now.table (told_arriving c.args.now c.args.seg.now c.args.text.now before) c.open.new.self.table)
    (λ told. subst (λ ws. g.T.ConnTable.tells c.args.self.now.table ws c.open.new.self.table)
    (opens_told c.args.now c.args.seg.now c.args.text.now before none) told) c.open.ensures.told

pub returns-in-None-clause-wrote : goal.returns-in-None-clause-wrote
returns-in-None-clause-wrote g c =
    let before : ServerOf = server_of g.T.ConnTable.conns c.args.self.now in
    let none : place_of (tuple_of c.args.seg.now) (g.T.ConnTable.conns c.args.self.now.table) ≡ None = search rules in
    map_err c.open.result _ (HasSent c.args.out.now.items c.open.new.out.items (arrives c.args.now c.args.seg.now c.args.text.now before).sent)
    (subst (HasSent c.args.out.now.items c.open.new.out.items) (opens_sent c.args.now c.args.seg.now c.args.text.now before none)) c.open.ensures.wrote
