use Rattle.std.proofs.Common.{◌≡◌, ◌∙◌, [], ap, arith, false, rules, subst, sym, true}
use Rattle.segment_codec.specs.Refusal.{tuple_of}
use Rattle.live_server.specs.Acts.{is_over}
use Rattle.live_server.specs.Isolation.{KeepsRest, Loses}
use Rattle.live_server.specs.Serving.{ServerOf, server_of}
use Rattle.live_server.specs.Told.{told_admitting, told_taking}
use Rattle.live_server.specs.declared.conn.Conn.{Conn}
use Rattle.live_server.proofs.ArriveLemmas.{map_ok, on_ok, rest_behind, yielding_rest}
use Rattle.live_server.proofs.LawLemmas.{lost_behind}
use Rattle.live_server.proofs.LossLemmas.{map_err}
use Rattle.live_server.proofs.ToldLemmas.{new_one, admitting_told}
use Rattle.live_server.proofs.rules.Rules.admit.Goals as goal

pub returns-clause-lost : goal.returns-clause-lost
returns-clause-lost g c =
    let before : ServerOf = server_of g.T.ConnTable.conns c.args.self.now in
    let mid : ServerOf = server_of g.T.ConnTable.conns c.make_place.new.self in
    let after : ServerOf = server_of g.T.ConnTable.conns c.take_place.new.self in
    map_err c.take_place.result _ (Loses (tuple_of c.args.seg.now) before after)
    (λ loss. lost_behind (tuple_of c.args.seg.now) before mid after c.make_place.ensures.place (subst (λ t. Loses t mid after) c.tuple_of-tuple.ensures loss)) c.take_place.ensures.lost

pub returns-clause-rest : goal.returns-clause-rest
returns-clause-rest g c =
    let before : ServerOf = server_of g.T.ConnTable.conns c.args.self.now in
    let mid : ServerOf = server_of g.T.ConnTable.conns c.make_place.new.self in
    let after : ServerOf = server_of g.T.ConnTable.conns c.take_place.new.self in
    rest_behind c.take_place.result 0 0 0 before mid after (omega arith) (subst (KeepsRest 0 before) (sym c.make_place.ensures.place) (yielding_rest before.waiting before)) c.take_place.ensures.rest

pub returns-then-is_over-clause-told : goal.returns-then-is_over-clause-told
returns-then-is_over-clause-told g c =
    let sv : ServerOf = server_of g.T.ConnTable.conns c.args.self.now in
    let conn : Conn = new_one c.args.now c.args.seg.now c.args.text.now sv in
    let made : c.take.new.self ≡ conn = search rules in
    let over : is_over conn ≡ true = ap is_over (sym made) ∙ sym c.is_over.ensures ∙ c.if-is_over.true in
    on_ok c.send.result _
    (subst (λ ws. g.T.ConnTable.tells c.args.self.now.table ws c.args.self.now.table) (sym (admitting_told c.args.now c.args.seg.now c.args.text.now sv true over))
    (g.met.T.ConnTable.tells_nothing c.args.self.now.table))

pub returns-clause-told : goal.returns-clause-told
returns-clause-told g c =
    let sv : ServerOf = server_of g.T.ConnTable.conns c.args.self.now in
    let mid : ServerOf = server_of g.T.ConnTable.conns c.make_place.new.self in
    let conn : Conn = new_one c.args.now c.args.seg.now c.args.text.now sv in
    let made : c.take.new.self ≡ conn = search rules in
    let whole : is_over conn ≡ false = ap is_over (sym made) ∙ sym c.is_over.ensures ∙ c.if-is_over.false in
    map_ok c.take_place.result _ (g.T.ConnTable.tells c.args.self.now.table (told_admitting c.args.now c.args.seg.now c.args.text.now sv) c.take_place.new.self.table)
    (λ told. subst (λ ws. g.T.ConnTable.tells c.args.self.now.table ws c.take_place.new.self.table)
    ((λ j. told_taking (c.tuple_of-tuple.ensures j) (c.make_place.ensures.place j)) ∙ sym (admitting_told c.args.now c.args.seg.now c.args.text.now sv false whole))
    (g.met.T.ConnTable.tells_on c.args.self.now.table c.make_place.new.self.table c.take_place.new.self.table [] (told_taking c.tuple_of-tuple.result mid)
    c.make_place.ensures.told told)) c.take_place.ensures.told
