use Rattle.std.proofs.Common.{◌≡◌, ◌∷◌, [], ◌++◌, ◌∙◌, ap, arith, refl, subst, sym}
use Rattle.segment_codec.specs.Refusal.{tuple_of}
use Rattle.live_server.specs.Acts.{Meeting, meets}
use Rattle.live_server.specs.Initial.{number_for}
use Rattle.live_server.specs.Isolation.{KeepsRest, Loses}
use Rattle.live_server.specs.Serving.{ServerOf, arrives, server_of}
use Rattle.live_server.specs.Table.{Conns, conn_at, replaced, IsNew}
use Rattle.live_server.specs.Told.{told_arriving, told_opening}
use Rattle.live_server.specs.Told.Told.{hears}
use Rattle.live_server.specs.Written.{HasSent}
use Rattle.live_server.proofs.ArriveLemmas.{gone_in_time, gone_partly, gone_sent, gone_server, gone_told, judged_sent, judged_server, judged_told, map_ok, met_partly, rest_behind}
use Rattle.live_server.proofs.LawLemmas.{lost_at, lost_in_time}
use Rattle.live_server.proofs.LossLemmas.{map_err, on_err}
use Rattle.live_server.proofs.rules.Rules.meet.Goals as goal

pub returns-in_err-met-clause-lost : goal.returns-in_err-met-clause-lost
returns-in_err-met-clause-lost g c =
    let before : ServerOf = server_of g.T.ConnTable.conns c.args.self.now in
    on_err c.from_residual.result _ (lost_at (tuple_of c.args.seg.now) before before refl c.args.place c.requires.place _ c.in_err-met.ensures.lost)

pub returns-in-Judged-clause-server : goal.returns-in-Judged-clause-server
returns-in-Judged-clause-server g c =
    let before : ServerOf = server_of g.T.ConnTable.conns c.args.self.now in
    let met : Meeting = meets c.args.now (number_for before.secret c.args.now c.args.seg.now) c.args.seg.now c.args.text.now (tuple_of c.args.seg.now) (conn_at c.args.place before.conns) in
    let same : meets c.args.now c.number_for-iss.result c.args.seg.now c.args.text.now c.tuple_of-tuple.result (conn_at c.args.place before.conns) ≡ met =
    λ j. meets c.args.now (c.number_for-iss.ensures j) c.args.seg.now c.args.text.now (c.tuple_of-tuple.ensures j) (conn_at c.args.place before.conns) in
    judged_server c.args.now c.args.seg.now c.args.text.now before c.args.place c.requires.place (g.T.ConnTable.conns c.meet.new.self) c.judge.new.self c.in-Judged.judged
    (c.in_ok-met.ensures.table ∙ ap (λ (m : Meeting). replaced c.args.place m.conn before.conns) same)
    (sym c.in-Judged.is ∙ c.in_ok-met.ensures.met ∙ ap (λ (m : Meeting). m.met) same) c.judge.ensures

pub returns-in-Judged-clause-sent : goal.returns-in-Judged-clause-sent
returns-in-Judged-clause-sent g c =
    let before : ServerOf = server_of g.T.ConnTable.conns c.args.self.now in
    let met : Meeting = meets c.args.now (number_for before.secret c.args.now c.args.seg.now) c.args.seg.now c.args.text.now (tuple_of c.args.seg.now) (conn_at c.args.place before.conns) in
    let same : meets c.args.now c.number_for-iss.result c.args.seg.now c.args.text.now c.tuple_of-tuple.result (conn_at c.args.place before.conns) ≡ met =
    λ j. meets c.args.now (c.number_for-iss.ensures j) c.args.seg.now c.args.text.now (c.tuple_of-tuple.ensures j) (conn_at c.args.place before.conns) in
    judged_sent c.args.now c.args.seg.now c.args.text.now before c.args.place c.requires.place c.in-Judged.judged (sym c.in-Judged.is ∙ c.in_ok-met.ensures.met ∙ ap (λ (m : Meeting). m.met) same)
    c.args.out.now.items c.meet.new.out.items (c.in_ok-met.ensures.sent ∙ ap (λ (m : Meeting). c.args.out.now.items ++ m.sent) same)

pub returns-in-Gone-clause-server : goal.returns-in-Gone-clause-server
returns-in-Gone-clause-server g c =
    let before : ServerOf = server_of g.T.ConnTable.conns c.args.self.now in
    let here : Conns = g.T.ConnTable.conns c.meet.new.self in
    let met : Meeting = meets c.args.now (number_for before.secret c.args.now c.args.seg.now) c.args.seg.now c.args.text.now (tuple_of c.args.seg.now) (conn_at c.args.place before.conns) in
    let same : meets c.args.now c.number_for-iss.result c.args.seg.now c.args.text.now c.tuple_of-tuple.result (conn_at c.args.place before.conns) ≡ met =
    λ j. meets c.args.now (c.number_for-iss.ensures j) c.args.seg.now c.args.text.now (c.tuple_of-tuple.ensures j) (conn_at c.args.place before.conns) in
    let new : IsNew (tuple_of c.args.seg.now) here = subst (λ t. IsNew t here) c.tuple_of-tuple.ensures (c.in_ok-met.ensures.gone c.in-Gone.is) in
    map_ok c.open.result _ (server_of g.T.ConnTable.conns c.open.new.self ≡ (arrives c.args.now c.args.seg.now c.args.text.now before).server)
    (λ is. is ∙ gone_server c.args.now c.args.seg.now c.args.text.now before c.args.place c.requires.place (sym c.in-Gone.is ∙ c.in_ok-met.ensures.met ∙ ap (λ (m : Meeting). m.met) same)
    (record before { conns = here }) (ap (λ (l : Conns). record before { conns = l }) (c.in_ok-met.ensures.table ∙ ap (λ (m : Meeting). replaced c.args.place m.conn before.conns) same)) new) c.open.ensures.server

pub returns-in-Gone-clause-sent : goal.returns-in-Gone-clause-sent
returns-in-Gone-clause-sent g c =
    let before : ServerOf = server_of g.T.ConnTable.conns c.args.self.now in
    let here : Conns = g.T.ConnTable.conns c.meet.new.self in
    let met : Meeting = meets c.args.now (number_for before.secret c.args.now c.args.seg.now) c.args.seg.now c.args.text.now (tuple_of c.args.seg.now) (conn_at c.args.place before.conns) in
    let same : meets c.args.now c.number_for-iss.result c.args.seg.now c.args.text.now c.tuple_of-tuple.result (conn_at c.args.place before.conns) ≡ met =
    λ j. meets c.args.now (c.number_for-iss.ensures j) c.args.seg.now c.args.text.now (c.tuple_of-tuple.ensures j) (conn_at c.args.place before.conns) in
    let new : IsNew (tuple_of c.args.seg.now) here = subst (λ t. IsNew t here) c.tuple_of-tuple.ensures (c.in_ok-met.ensures.gone c.in-Gone.is) in
    map_ok c.open.result _ (c.open.new.out.items ≡ c.args.out.now.items ++ (arrives c.args.now c.args.seg.now c.args.text.now before).sent)
    (gone_sent c.args.now c.args.seg.now c.args.text.now before c.args.place c.requires.place (sym c.in-Gone.is ∙ c.in_ok-met.ensures.met ∙ ap (λ (m : Meeting). m.met) same)
    (record before { conns = here }) (ap (λ (l : Conns). record before { conns = l }) (c.in_ok-met.ensures.table ∙ ap (λ (m : Meeting). replaced c.args.place m.conn before.conns) same)) new
    c.args.out.now.items c.meet.new.out.items c.open.new.out.items (c.in_ok-met.ensures.sent ∙ ap (λ (m : Meeting). c.args.out.now.items ++ m.sent) same)) c.open.ensures.sent

pub returns-in-Gone-clause-lost : goal.returns-in-Gone-clause-lost
returns-in-Gone-clause-lost g c =
    let before : ServerOf = server_of g.T.ConnTable.conns c.args.self.now in
    let here : Conns = g.T.ConnTable.conns c.meet.new.self in
    let after : ServerOf = server_of g.T.ConnTable.conns c.open.new.self in
    let met : Meeting = meets c.args.now (number_for before.secret c.args.now c.args.seg.now) c.args.seg.now c.args.text.now (tuple_of c.args.seg.now) (conn_at c.args.place before.conns) in
    let same : meets c.args.now c.number_for-iss.result c.args.seg.now c.args.text.now c.tuple_of-tuple.result (conn_at c.args.place before.conns) ≡ met =
    λ j. meets c.args.now (c.number_for-iss.ensures j) c.args.seg.now c.args.text.now (c.tuple_of-tuple.ensures j) (conn_at c.args.place before.conns) in
    map_err c.open.result _ (Loses (tuple_of c.args.seg.now) before after)
    (lost_in_time (tuple_of c.args.seg.now) before c.args.now (record before { conns = here }) after
    (gone_in_time c.args.now c.args.seg.now c.args.text.now before c.args.place c.requires.place (sym c.in-Gone.is ∙ c.in_ok-met.ensures.met ∙ ap (λ (m : Meeting). m.met) same)
    (record before { conns = here }) (ap (λ (l : Conns). record before { conns = l }) (c.in_ok-met.ensures.table ∙ ap (λ (m : Meeting). replaced c.args.place m.conn before.conns) same)))) c.open.ensures.lost

pub returns-in-Judged-clause-told : goal.returns-in-Judged-clause-told
returns-in-Judged-clause-told g c =
    let before : ServerOf = server_of g.T.ConnTable.conns c.args.self.now in
    let met : Meeting = meets c.args.now (number_for before.secret c.args.now c.args.seg.now) c.args.seg.now c.args.text.now (tuple_of c.args.seg.now) (conn_at c.args.place before.conns) in
    let same : meets c.args.now c.number_for-iss.result c.args.seg.now c.args.text.now c.tuple_of-tuple.result (conn_at c.args.place before.conns) ≡ met =
    λ j. meets c.args.now (c.number_for-iss.ensures j) c.args.seg.now c.args.text.now (c.tuple_of-tuple.ensures j) (conn_at c.args.place before.conns) in
    subst (λ ws. g.T.ConnTable.tells c.args.self.now.table ws c.meet.new.self)
    (ap (λ t. hears t ∷ []) c.tuple_of-tuple.ensures
    ∙ judged_told c.args.now c.args.seg.now c.args.text.now before c.args.place c.requires.place c.in-Judged.judged (sym c.in-Judged.is ∙ c.in_ok-met.ensures.met ∙ ap (λ (m : Meeting). m.met) same))
    c.in_ok-met.ensures.told

pub returns-in-Gone-clause-told : goal.returns-in-Gone-clause-told
returns-in-Gone-clause-told g c =
    let before : ServerOf = server_of g.T.ConnTable.conns c.args.self.now in
    let met : Meeting = meets c.args.now (number_for before.secret c.args.now c.args.seg.now) c.args.seg.now c.args.text.now (tuple_of c.args.seg.now) (conn_at c.args.place before.conns) in
    let same : meets c.args.now c.number_for-iss.result c.args.seg.now c.args.text.now c.tuple_of-tuple.result (conn_at c.args.place before.conns) ≡ met =
    λ j. meets c.args.now (c.number_for-iss.ensures j) c.args.seg.now c.args.text.now (c.tuple_of-tuple.ensures j) (conn_at c.args.place before.conns) in
    let here : Conns = g.T.ConnTable.conns c.meet.new.self in
    let new : IsNew (tuple_of c.args.seg.now) here = subst (λ t. IsNew t here) c.tuple_of-tuple.ensures (c.in_ok-met.ensures.gone c.in-Gone.is) in
    map_ok c.open.result _ (g.T.ConnTable.tells c.args.self.now.table (told_arriving c.args.now c.args.seg.now c.args.text.now before) c.open.new.self.table)
    (λ told. subst (λ ws. g.T.ConnTable.tells c.args.self.now.table ws c.open.new.self.table)
    (ap (λ t. hears t ∷ told_opening c.args.now c.args.seg.now c.args.text.now (record before { conns = here })) c.tuple_of-tuple.ensures
    ∙ gone_told c.args.now c.args.seg.now c.args.text.now before c.args.place c.requires.place (sym c.in-Gone.is ∙ c.in_ok-met.ensures.met ∙ ap (λ (m : Meeting). m.met) same)
    (record before { conns = here }) (ap (λ (l : Conns). record before { conns = l }) (c.in_ok-met.ensures.table ∙ ap (λ (m : Meeting). replaced c.args.place m.conn before.conns) same)) new)
    (g.met.T.ConnTable.tells_on c.args.self.now.table c.meet.new.self c.open.new.self.table _ _ c.in_ok-met.ensures.told told)) c.open.ensures.told

pub returns-in_err-met-clause-wrote : goal.returns-in_err-met-clause-wrote
returns-in_err-met-clause-wrote g c =
    let before : ServerOf = server_of g.T.ConnTable.conns c.args.self.now in
    let met : Meeting = meets c.args.now (number_for before.secret c.args.now c.args.seg.now) c.args.seg.now c.args.text.now (tuple_of c.args.seg.now) (conn_at c.args.place before.conns) in
    let same : meets c.args.now c.number_for-iss.result c.args.seg.now c.args.text.now c.tuple_of-tuple.result (conn_at c.args.place before.conns) ≡ met =
    λ j. meets c.args.now (c.number_for-iss.ensures j) c.args.seg.now c.args.text.now (c.tuple_of-tuple.ensures j) (conn_at c.args.place before.conns) in
    on_err c.from_residual.result _ (met_partly c.args.now c.args.seg.now c.args.text.now before c.args.place c.requires.place c.args.out.now.items c.meet.new.out.items
    (subst (λ (m : Meeting). HasSent c.args.out.now.items c.meet.new.out.items m.sent) same c.in_err-met.ensures.wrote))

pub returns-in-Gone-clause-wrote : goal.returns-in-Gone-clause-wrote
returns-in-Gone-clause-wrote g c =
    let before : ServerOf = server_of g.T.ConnTable.conns c.args.self.now in
    let here : Conns = g.T.ConnTable.conns c.meet.new.self in
    let met : Meeting = meets c.args.now (number_for before.secret c.args.now c.args.seg.now) c.args.seg.now c.args.text.now (tuple_of c.args.seg.now) (conn_at c.args.place before.conns) in
    let same : meets c.args.now c.number_for-iss.result c.args.seg.now c.args.text.now c.tuple_of-tuple.result (conn_at c.args.place before.conns) ≡ met =
    λ j. meets c.args.now (c.number_for-iss.ensures j) c.args.seg.now c.args.text.now (c.tuple_of-tuple.ensures j) (conn_at c.args.place before.conns) in
    let new : IsNew (tuple_of c.args.seg.now) here = subst (λ t. IsNew t here) c.tuple_of-tuple.ensures (c.in_ok-met.ensures.gone c.in-Gone.is) in
    map_err c.open.result _ (HasSent c.args.out.now.items c.open.new.out.items (arrives c.args.now c.args.seg.now c.args.text.now before).sent)
    (gone_partly c.args.now c.args.seg.now c.args.text.now before c.args.place c.requires.place (sym c.in-Gone.is ∙ c.in_ok-met.ensures.met ∙ ap (λ (m : Meeting). m.met) same)
    (record before { conns = here }) (ap (λ (l : Conns). record before { conns = l }) (c.in_ok-met.ensures.table ∙ ap (λ (m : Meeting). replaced c.args.place m.conn before.conns) same)) new
    c.args.out.now.items c.meet.new.out.items c.open.new.out.items (c.in_ok-met.ensures.sent ∙ ap (λ (m : Meeting). c.args.out.now.items ++ m.sent) same)) c.open.ensures.wrote

pub returns-in-Gone-clause-rest : goal.returns-in-Gone-clause-rest
returns-in-Gone-clause-rest g c =
    let before : ServerOf = server_of g.T.ConnTable.conns c.args.self.now in
    let mid : ServerOf = record before { conns = g.T.ConnTable.conns c.meet.new.self } in
    let first : KeepsRest 0 before mid = (refl, omega arith, omega arith) in
    rest_behind c.open.result 0 0 0 before mid (server_of g.T.ConnTable.conns c.open.new.self) (omega arith) first c.open.ensures.rest
