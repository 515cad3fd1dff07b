use Rattle.std.proofs.Common.{◌≡◌, ◌++◌, ◌+◌, ◌-◌, ◌^◌, ◌∙◌, [], ap, arith, length, min, refl, sym, subst}
use Rattle.live_server.specs.Isolation.{KeepsRest}
use Rattle.live_server.specs.Serving.{ServerOf, arrives, on_segment, overfull, server_of}
use Rattle.live_server.specs.Told.{told_arriving, told_segment}
use Rattle.live_server.specs.Written.{HasSent}
use Rattle.live_server.proofs.ArriveLemmas.{full_sent, full_server, full_told, held_sent, held_server, held_told, map_ok, rest_behind}
use Rattle.live_server.proofs.LossLemmas.{map_err}
use Rattle.live_server.proofs.rules.Rules.segment.Goals as goal

pub returns-then-fits-clause-server : goal.returns-then-fits-clause-server
returns-then-fits-clause-server g c =
    let sv : ServerOf = server_of g.T.ConnTable.conns c.args.self.now in
    let text = c.args.text.now in
    let sum : c.saturating_add-self.result ≡ min (2 ^ 64 - 1) (sv.held + length text) = omega (arith, c.saturating_add-self.ensures) in
    map_ok c.arrive.result _ (server_of g.T.ConnTable.conns c.arrive.new.self ≡ (on_segment c.args.now c.args.seg.now text sv).server)
    (λ is. is ∙ held_server c.args.now c.args.seg.now text sv (record sv { held = c.saturating_add-self.result }) (sym c.if-fits.ensures) (ap (λ h. record sv { held = h }) sum)) c.arrive.ensures.server

pub returns-then-fits-clause-sent : goal.returns-then-fits-clause-sent
returns-then-fits-clause-sent g c =
    let sv : ServerOf = server_of g.T.ConnTable.conns c.args.self.now in
    let text = c.args.text.now in
    let sum : c.saturating_add-self.result ≡ min (2 ^ 64 - 1) (sv.held + length text) = omega (arith, c.saturating_add-self.ensures) in
    map_ok c.arrive.result _ (c.arrive.new.out.items ≡ c.args.out.now.items ++ (on_segment c.args.now c.args.seg.now text sv).sent)
    (λ is. is ∙ ap (λ l. c.args.out.now.items ++ l) (held_sent c.args.now c.args.seg.now text sv (record sv { held = c.saturating_add-self.result }) (sym c.if-fits.ensures) (ap (λ h. record sv { held = h }) sum)))
    c.arrive.ensures.sent

pub returns-else-fits-clause-server : goal.returns-else-fits-clause-server
returns-else-fits-clause-server g c =
    let sv : ServerOf = server_of g.T.ConnTable.conns c.args.self.now in
    let text = c.args.text.now in
    map_ok c.arrive-else-fits.result _ (server_of g.T.ConnTable.conns c.arrive-else-fits.new.self ≡ (on_segment c.args.now c.args.seg.now text sv).server)
    (λ is. is ∙ ap (λ s. (arrives c.args.now s [] (overfull sv)).server) c.without_text.ensures ∙ full_server c.args.now c.args.seg.now text sv (overfull sv) (sym c.if-fits.ensures) refl)
    c.arrive-else-fits.ensures.server

pub returns-else-fits-clause-sent : goal.returns-else-fits-clause-sent
returns-else-fits-clause-sent g c =
    let sv : ServerOf = server_of g.T.ConnTable.conns c.args.self.now in
    let text = c.args.text.now in
    map_ok c.arrive-else-fits.result _ (c.arrive-else-fits.new.out.items ≡ c.args.out.now.items ++ (on_segment c.args.now c.args.seg.now text sv).sent)
    (λ is. is
    ∙ ap (λ l. c.args.out.now.items ++ l) (ap (λ s. (arrives c.args.now s [] (overfull sv)).sent) c.without_text.ensures ∙ full_sent c.args.now c.args.seg.now text sv (overfull sv) (sym c.if-fits.ensures) refl))
    c.arrive-else-fits.ensures.sent

pub returns-then-fits-clause-told : goal.returns-then-fits-clause-told
returns-then-fits-clause-told g c =
    let sv : ServerOf = server_of g.T.ConnTable.conns c.args.self.now in
    let text = c.args.text.now in
    let sum : c.saturating_add-self.result ≡ min (2 ^ 64 - 1) (sv.held + length text) = omega (arith, c.saturating_add-self.ensures) in
    map_ok c.arrive.result _ (g.T.ConnTable.tells c.args.self.now.table (told_segment c.args.now c.args.seg.now text sv) c.arrive.new.self.table)
    (λ told. subst (λ ws. g.T.ConnTable.tells c.args.self.now.table ws c.arrive.new.self.table)
    (held_told c.args.now c.args.seg.now text sv (record sv { held = c.saturating_add-self.result }) (sym c.if-fits.ensures) (ap (λ h. record sv { held = h }) sum)) told)
    c.arrive.ensures.told

pub returns-else-fits-clause-told : goal.returns-else-fits-clause-told
returns-else-fits-clause-told g c =
    let sv : ServerOf = server_of g.T.ConnTable.conns c.args.self.now in
    let text = c.args.text.now in
    map_ok c.arrive-else-fits.result _ (g.T.ConnTable.tells c.args.self.now.table (told_segment c.args.now c.args.seg.now text sv) c.arrive-else-fits.new.self.table)
    (λ told. subst (λ ws. g.T.ConnTable.tells c.args.self.now.table ws c.arrive-else-fits.new.self.table)
    (ap (λ s. told_arriving c.args.now s [] (overfull sv)) c.without_text.ensures ∙ full_told c.args.now c.args.seg.now text sv (overfull sv) (sym c.if-fits.ensures) refl) told)
    c.arrive-else-fits.ensures.told

pub returns-then-fits-clause-wrote : goal.returns-then-fits-clause-wrote
returns-then-fits-clause-wrote g c =
    let sv : ServerOf = server_of g.T.ConnTable.conns c.args.self.now in
    let text = c.args.text.now in
    let sum : c.saturating_add-self.result ≡ min (2 ^ 64 - 1) (sv.held + length text) = omega (arith, c.saturating_add-self.ensures) in
    map_err c.arrive.result _ (HasSent c.args.out.now.items c.arrive.new.out.items (on_segment c.args.now c.args.seg.now text sv).sent)
    (subst (HasSent c.args.out.now.items c.arrive.new.out.items) (held_sent c.args.now c.args.seg.now text sv (record sv { held = c.saturating_add-self.result }) (sym c.if-fits.ensures) (ap (λ h. record sv { held = h }) sum)))
    c.arrive.ensures.wrote

pub returns-else-fits-clause-wrote : goal.returns-else-fits-clause-wrote
returns-else-fits-clause-wrote g c =
    let sv : ServerOf = server_of g.T.ConnTable.conns c.args.self.now in
    let text = c.args.text.now in
    map_err c.arrive-else-fits.result _ (HasSent c.args.out.now.items c.arrive-else-fits.new.out.items (on_segment c.args.now c.args.seg.now text sv).sent)
    (subst (HasSent c.args.out.now.items c.arrive-else-fits.new.out.items)
    (ap (λ s. (arrives c.args.now s [] (overfull sv)).sent) c.without_text.ensures ∙ full_sent c.args.now c.args.seg.now text sv (overfull sv) (sym c.if-fits.ensures) refl))
    c.arrive-else-fits.ensures.wrote

pub returns-then-fits-clause-rest : goal.returns-then-fits-clause-rest
returns-then-fits-clause-rest g c =
    let sv : ServerOf = server_of g.T.ConnTable.conns c.args.self.now in
    let text = c.args.text.now in
    let mid : ServerOf = record sv { held = c.saturating_add-self.result } in
    let first : KeepsRest (length text) sv mid = (refl, omega (arith, c.saturating_add-self.ensures), omega (arith, c.saturating_add-self.ensures)) in
    rest_behind c.arrive.result (length text) 0 (length text) sv mid (server_of g.T.ConnTable.conns c.arrive.new.self) (omega arith) first c.arrive.ensures.rest

pub returns-else-fits-clause-rest : goal.returns-else-fits-clause-rest
returns-else-fits-clause-rest g c =
    let sv : ServerOf = server_of g.T.ConnTable.conns c.args.self.now in
    let first : KeepsRest 0 sv (overfull sv) = (refl, omega arith, omega arith) in
    rest_behind c.arrive-else-fits.result 0 0 (length c.args.text.now) sv (overfull sv) (server_of g.T.ConnTable.conns c.arrive-else-fits.new.self) (omega arith) first c.arrive-else-fits.ensures.rest
