use Rattle.std.proofs.Common.{ℕ, ◌+◌, ◌≤◌, ◌∙◌, List, ap, arith, drop, length, length-drop, length-take, subst, sym}
use Rattle.live_server.specs.Serving.{ServerOf, server_of}
use Rattle.live_server.specs.Told.{told_addressed, told_datagram}
use Rattle.live_server.specs.Urgent.{reset_text}
use Rattle.live_server.proofs.ArriveLemmas.{all_rest, map_ok, rest_behind, same_rest}
use Rattle.live_server.proofs.ToldLemmas.{other_told, packet_told, too_long_told, unheard_told}
use Rattle.live_server.proofs.rules.Rules.datagram.Goals as goal

pub returns-in-Segment-clause-told : goal.returns-in-Segment-clause-told
returns-in-Segment-clause-told g c =
    let sv : ServerOf = server_of g.T.ConnTable.conns c.args.self.now in
    map_ok c.addressed.result _ (g.T.ConnTable.tells c.args.self.now.table (told_datagram c.args.now c.args.body.now sv) c.addressed.new.self.table)
    (λ told. subst (λ ws. g.T.ConnTable.tells c.args.self.now.table ws c.addressed.new.self.table)
    ((λ j. told_addressed c.args.now (c.urgent_in-pointer.ensures j) (c.as_reset.ensures j) ((c.reset_text-text.ensures.is ∙ ap (λ text. reset_text c.in-Segment.seg text) c.text_of.ensures) j) sv)
    ∙ sym (packet_told c.args.now c.args.body.now sv c.in-Segment.seg (sym c.decode.ensures ∙ c.in-Segment.is))) told)
    c.addressed.ensures.told

pub returns-in-Some-clause-told : goal.returns-in-Some-clause-told
returns-in-Some-clause-told g c =
    let sv : ServerOf = server_of g.T.ConnTable.conns c.args.self.now in
    map_ok c.shorten.result _ (g.T.ConnTable.tells c.args.self.now.table (told_datagram c.args.now c.args.body.now sv) c.shorten.new.self.table)
    (λ told. subst (λ ws. g.T.ConnTable.tells c.args.self.now.table ws c.shorten.new.self.table)
    (sym (too_long_told c.args.now c.args.body.now sv c.in-Some.too_long (sym c.decode.ensures ∙ c.in-Other.is) (sym c.too_long_in.ensures ∙ c.in-Some.is))) told)
    c.shorten.ensures.told

pub returns-in-None-clause-told : goal.returns-in-None-clause-told
returns-in-None-clause-told g c =
    let sv : ServerOf = server_of g.T.ConnTable.conns c.args.self.now in
    map_ok c.report.result _ (g.T.ConnTable.tells c.args.self.now.table (told_datagram c.args.now c.args.body.now sv) c.report.new.self.table)
    (λ told. subst (λ ws. g.T.ConnTable.tells c.args.self.now.table ws c.report.new.self.table)
    (sym (unheard_told c.args.now c.args.body.now sv (sym c.decode.ensures ∙ c.in-Other.is) (sym c.too_long_in.ensures ∙ c.in-None.is))) told)
    c.report.ensures.told

pub returns-in_default-clause-told : goal.returns-in_default-clause-told
returns-in_default-clause-told g c =
    let sv : ServerOf = server_of g.T.ConnTable.conns c.args.self.now in
    subst (λ t. g.T.ConnTable.tells c.args.self.now.table (told_datagram c.args.now c.args.body.now sv) t) (sym c.pass_over.ensures.table)
    (subst (λ ws. g.T.ConnTable.tells c.args.self.now.table ws c.args.self.now.table)
    (sym (other_told c.args.now c.args.body.now sv c.decode.result c.decode.ensures c.in_default.not-Segment c.in_default.not-Other)) (g.met.T.ConnTable.tells_nothing c.args.self.now.table))

pub returns-in-Segment-clause-rest : goal.returns-in-Segment-clause-rest
returns-in-Segment-clause-rest g c =
    let sv : ServerOf = server_of g.T.ConnTable.conns c.args.self.now in
    let body = c.args.body.now in
    let seg = c.in-Segment.seg in
    let short : 0 + length c.reset_text-text.result.now ≤ length body = omega (arith, c.reset_text-text.ensures.short, ap (λ (l : List ℕ). length l) c.text_of.ensures, length-take seg.text_len (drop seg.text_from body), length-drop seg.text_from body) in
    rest_behind c.addressed.result 0 (length c.reset_text-text.result.now) (length body) sv sv (server_of g.T.ConnTable.conns c.addressed.new.self) short (all_rest sv 0) c.addressed.ensures.rest

pub returns-in-Some-clause-rest : goal.returns-in-Some-clause-rest
returns-in-Some-clause-rest g c =
    let sv : ServerOf = server_of g.T.ConnTable.conns c.args.self.now in
    rest_behind c.shorten.result 0 0 (length c.args.body.now) sv sv (server_of g.T.ConnTable.conns c.shorten.new.self) (omega arith) (all_rest sv 0) c.shorten.ensures.rest

pub returns-in-None-clause-rest : goal.returns-in-None-clause-rest
returns-in-None-clause-rest g c =
    let sv : ServerOf = server_of g.T.ConnTable.conns c.args.self.now in
    same_rest c.report.result (length c.args.body.now) sv (server_of g.T.ConnTable.conns c.report.new.self) c.report.ensures.kept
