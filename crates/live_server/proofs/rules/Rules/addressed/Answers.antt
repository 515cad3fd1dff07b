use Rattle.std.proofs.Common.{◌∙◌, ap, false, refl, subst, sym, true}
use Rattle.live_server.specs.Serving.{ServerOf, server_of}
use Rattle.live_server.specs.Services.{is_served_at}
use Rattle.live_server.specs.Told.{told_addressed, told_urgent}
use Rattle.live_server.proofs.ArriveLemmas.{map_ok, on_ok}
use Rattle.live_server.proofs.ToldLemmas.{addressed_told}
use Rattle.live_server.proofs.rules.Rules.addressed.Goals as goal

pub returns-then-not-is_for_us-clause-told : goal.returns-then-not-is_for_us-clause-told
returns-then-not-is_for_us-clause-told g c =
    let sv : ServerOf = server_of g.T.ConnTable.conns c.args.self.now in
    subst (λ ws. g.T.ConnTable.tells c.args.self.now.table ws c.args.self.now.table)
    (sym (addressed_told c.args.now c.args.seg.now c.args.text.now sv c.args.pointer false (is_served_at sv.setting.ports c.args.seg.now.dst_port) (sym c.if-not-is_for_us.ensures) refl))
    (g.met.T.ConnTable.tells_nothing c.args.self.now.table)

pub returns-then-is_served_at-clause-told : goal.returns-then-is_served_at-clause-told
returns-then-is_served_at-clause-told g c =
    let sv : ServerOf = server_of g.T.ConnTable.conns c.args.self.now in
    map_ok c.urgent.result _ (g.T.ConnTable.tells c.args.self.now.table (told_addressed c.args.now c.args.pointer c.args.seg.now c.args.text.now sv) c.urgent.new.self.table)
    (λ told. subst (λ ws. g.T.ConnTable.tells c.args.self.now.table ws c.urgent.new.self.table)
    (ap (λ s. told_urgent c.args.now c.args.pointer s c.args.text.now sv) c.limited.ensures
    ∙ sym (addressed_told c.args.now c.args.seg.now c.args.text.now sv c.args.pointer true true (sym c.if-not-is_for_us.ensures) (sym c.if-is_served_at.ensures))) told) c.urgent.ensures.told

pub returns-else-is_served_at-clause-told : goal.returns-else-is_served_at-clause-told
returns-else-is_served_at-clause-told g c =
    let sv : ServerOf = server_of g.T.ConnTable.conns c.args.self.now in
    on_ok c.refuse.result _
    (subst (λ t. g.T.ConnTable.tells c.args.self.now.table (told_addressed c.args.now c.args.pointer c.args.seg.now c.args.text.now sv) t) (sym c.refuse.ensures.table)
    (subst (λ ws. g.T.ConnTable.tells c.args.self.now.table ws c.args.self.now.table)
    (sym (addressed_told c.args.now c.args.seg.now c.args.text.now sv c.args.pointer true false (sym c.if-not-is_for_us.ensures) (sym c.if-is_served_at.ensures)))
    (g.met.T.ConnTable.tells_nothing c.args.self.now.table)))
